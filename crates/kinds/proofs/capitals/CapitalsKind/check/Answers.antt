use Rattle.std.proofs.Common.{rules}
use Rattle.kinds.specs.Texts.{capitals}
use Rattle.kinds.proofs.capitals.CapitalsKind.check.Goals as goal

pub returns-then-are_capitals : goal.returns-then-are_capitals
unfolding capitals
returns-then-are_capitals c = (c.args.s.now, search rules)

pub returns-else-are_capitals : goal.returns-else-are_capitals
unfolding capitals
returns-else-are_capitals c = search rules
