-- One part alone, a record or a field.
use Rattle.std.proofs.Common.{◌≡◌, ℕ, zero, suc, ◌<◌, true, [], ◌∷◌, length, get_or, Some, None, Option, is_some, MatchOption, arith}
use Rattle.area.specs.Spans.{Held}
use Rattle.model.proofs.Lists.{never}

module _ {X : Type 0} (from wide : X → ℕ) (x : X) (n : ℕ) where
  one_some : (i : ℕ) → (i < length (x ∷ [])) × ((d : X) → Held from wide n (get_or (x ∷ []) i d)) → Held from wide n x
  one_some zero h = h.1 x
  one_some (suc i) h = let a = h.0 in let bad : ⊥ = omega arith in never bad

  pub one_found : (o : Option ℕ) (P : Type 0) → is_some o ≡ true → MatchOption o P (λ i. (i < length (x ∷ [])) × ((d : X) → Held from wide n (get_or (x ∷ []) i d))) → Held from wide n x
  one_found None P e h = never (cc)
  one_found (Some i) P e h = one_some i h
