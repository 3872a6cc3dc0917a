use Rattle.std.proofs.Common.{rules}
use Rattle.kinds.specs.Texts.{capitals}
use Rattle.kinds.proofs.capitals.CapitalsKind.read.Goals as goal

pub returns-then-are-capitals : goal.returns-then-are-capitals
unfolding capitals
returns-then-are-capitals c = search rules

pub returns-else-are-capitals : goal.returns-else-are-capitals
unfolding capitals
returns-else-are-capitals c = search rules
