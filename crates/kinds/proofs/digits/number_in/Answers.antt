use Rattle.std.proofs.Common.{rules}
use Rattle.kinds.specs.Numbers.{number}
use Rattle.kinds.proofs.digits.number_in.Goals as goal

pub returns-then-s-k : goal.returns-then-s-k
unfolding number
returns-then-s-k c = search rules

pub returns-then-n-k : goal.returns-then-n-k
unfolding number
returns-then-n-k c = search rules

pub returns : goal.returns
unfolding number
returns c = search rules
