use Rattle.std.proofs.Common.{◌≡◌, ◌-◌, ◌^◌, ◌<◌, ◌++◌, take}
use Rattle.kinds.specs.Digits.{digits}
use Rattle.kinds.proofs.digits.put_digits.Given as goal

abbrev pub invariant-loop-i : goal.invariant-loop-i
invariant-loop-i l = (take l.i l.out ++ digits (l.width - l.i) l.rest ≡ digits l.width l.n) × (l.rest < 10 ^ (l.width - l.i))
