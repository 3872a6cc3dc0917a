-- What holds of any kind.
use Rattle.std.proofs.Common.{◌≡◌, ℕ, List, length, Some, None, Ok, Err, Option, Result, sym, refl, ◌∙◌}
use Rattle.refusal.specs.declared.fault.Fault.{Fault}
use Rattle.kind.specs.Kinds.{Laws, Checked, Told}

-- bytes of another length than the kind's spell nothing of it
pub misfit : {V : Type 0} {w : ℕ} {f : List ℕ → Option V} → Laws w f → (old : List ℕ) (v : V) → (length old ≡ w → ⊥) → (s : List ℕ) → length s ≡ length old → f s ≡ Some v → ⊥
misfit k old v ne s l e = ne (sym l ∙ k.sized s v e)

-- where there is but one value, a check is a reading
pub checked_told : (f : List ℕ → Option (Unit {0})) (s : List ℕ) (r : Result (Unit {0}) Fault) → Checked f s r → Told (λ v. v) f s r
checked_told f s (Ok u) p = p.1
checked_told f s (Err e) p = p

-- what reads as no value does not read
pub none_from : {V : Type 0} (x : Option V) → ((v : V) → x ≡ Some v → ⊥) → x ≡ None
none_from None h = refl
none_from (Some v) h = elim (h v refl) [ ]
