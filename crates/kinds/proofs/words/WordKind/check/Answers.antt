use Rattle.std.proofs.Common.{rules}
use Rattle.kinds.specs.Texts.{word}
use Rattle.kinds.proofs.words.WordKind.check.Goals as goal

pub returns-then-same : goal.returns-then-same
unfolding word
returns-then-same c = (tt, search rules)

pub returns-else-same : goal.returns-else-same
unfolding word
returns-else-same c = search rules
