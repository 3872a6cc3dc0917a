use Rattle.std.proofs.Common.{rules}
use Rattle.kinds.specs.Texts.{empty}
use Rattle.kinds.proofs.spaces.SpacesKind.check.Goals as goal

pub returns-then-all_spaces : goal.returns-then-all_spaces
unfolding empty
returns-then-all_spaces c = (tt, search rules)

pub returns-else-s-self : goal.returns-else-s-self
unfolding empty
returns-else-s-self c = search rules
