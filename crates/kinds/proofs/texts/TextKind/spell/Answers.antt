use Rattle.std.proofs.Common.{rules}
use Rattle.kinds.specs.Texts.{text}
use Rattle.kinds.proofs.texts.TextKind.spell.Goals as goal

pub returns-then-out-self : goal.returns-then-out-self
unfolding text
returns-then-out-self c = search rules

pub returns : goal.returns
unfolding text
returns c = search rules
