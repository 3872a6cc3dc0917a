use Rattle.std.proofs.Common.{◌<◌, ◌+◌, ◌-◌, ◌^◌, ◌/◌, ◌%◌, length, arith}
use Rattle.kinds.proofs.Horner.{put_step, put_all, rest_less}
use Rattle.kinds.proofs.digits.put_digits.Goals as goal

-- what one turn finds: a digit, what rests behind it, and a power to divide by
turn : (c : goal.After-pow-power) → (c.loop-i.rest / c.pow-power.result < 10) × (c.loop-i.rest % c.pow-power.result < 10 ^ (length c.args.out.now - (c.loop-i.i + 1))) × (0 < c.pow-power.result)
turn c = rest_less (length c.args.out.now) c.loop-i.i c.loop-i.rest c.pow-power.result (omega arith) c.pow-power.ensures c.loop-i.invariant.1

pub nonzero_div-byte : goal.nonzero_div-byte
nonzero_div-byte c = (turn c).2

pub overflow_cast-byte : goal.overflow_cast-byte
overflow_cast-byte c = omega (arith, (turn c).0)

pub overflow_add-byte : goal.overflow_add-byte
overflow_add-byte c = omega (arith, (turn c).0)

pub nonzero_rem-rest : goal.nonzero_rem-rest
nonzero_rem-rest c = (turn c).2

pub loop-i-preserved : goal.loop-i-preserved
loop-i-preserved c = (put_step c.loop-i.out c.loop-i.i c.loop-i.rest c.args.n c.pow-power.result (length c.args.out.now) (omega arith) (omega arith) c.pow-power.ensures c.loop-i.invariant.0, (turn c).1)

pub returns : goal.returns
returns c = put_all c.loop-i.out c.loop-i.i c.loop-i.rest c.args.n (length c.args.out.now) (omega arith) (omega arith) c.loop-i.invariant.0
