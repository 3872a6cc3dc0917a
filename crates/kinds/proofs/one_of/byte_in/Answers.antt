use Rattle.std.proofs.Common.{rules}
use Rattle.kinds.specs.Texts.{one_of}
use Rattle.kinds.proofs.one_of.byte_in.Goals as goal

pub returns-then-is_among : goal.returns-then-is_among
unfolding one_of
returns-then-is_among c = search rules

pub returns-else-s-eq1 : goal.returns-else-s-eq1
unfolding one_of
returns-else-s-eq1 c = search rules
