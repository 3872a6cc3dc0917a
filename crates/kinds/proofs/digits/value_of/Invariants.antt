use Rattle.std.proofs.Common.{◌≡◌, ◌^◌, ◌<◌, true, drop}
use Rattle.kinds.specs.Digits.{figures}
use Rattle.kinds.proofs.Horner.{after}
use Rattle.kinds.proofs.digits.value_of.Given as goal

abbrev pub invariant-loop-b : goal.invariant-loop-b
invariant-loop-b l = (after l.sum (drop l.b-index l.s) ≡ after 0 l.s) × (figures (drop l.b-index l.s) ≡ true) × (l.sum < 10 ^ l.b-index)
