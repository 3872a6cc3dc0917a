-- Small facts about options.
use Rattle.std.specs.Prelude.{◌≡◌, ℕ, Some, None}
use Rattle.std.proofs.Common.{arith}

pub never : {A : Type 0} {v : A} {P : Type 0} → None ≡ Some v → P
never e = let z : ◌≡◌ {A = ℕ} 0 1 = cc in let bad : ⊥ = omega arith in elim bad [ ]

pub some_is : {A : Type 0} {x v : A} → Some x ≡ Some v → x ≡ v
some_is e = cc
