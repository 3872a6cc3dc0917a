use Rattle.std.proofs.Common.{rules}
use Rattle.kinds.specs.Texts.{capitals}
use Rattle.kinds.proofs.capitals.CapitalsKind.spell.Goals as goal

pub returns-then-out-self : goal.returns-then-out-self
unfolding capitals
returns-then-out-self c = search rules

pub returns : goal.returns
unfolding capitals
returns c = search rules
