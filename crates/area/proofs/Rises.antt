-- What a look at the middle of rising parts rules out.
use Rattle.std.proofs.Common.{◌≡◌, ℕ, ◌+◌, ◌<◌, ◌≤◌, List, length, get_or, ap, inl, inr, arith}
use Rattle.std.proofs.lemmas.List.{get_or_read}
use Rattle.std.proofs.lemmas.Bool.{cases_eq}
use Rattle.area.specs.Spans.{Rising}

module _ {X : Type 0} (f w : X → ℕ) (xs : List X) (n m : ℕ) (x : X) (ris : Rising f w xs) (hm : m < length xs) (ex : x ≡ get_or xs m x) where
  pub above : n < f x → (k : ℕ) (d : X) → m ≤ k → k < length xs → n < f (get_or xs k d)
  above hx k d h l =
      let r = ap f (get_or_read xs m x hm ex d) in
      elim (cases_eq k m) [ inl e ↦ rw e (omega arith) | inr ne ↦ omega (arith, ris m k d (omega arith) l) ]

  pub below : f x + w x ≤ n → (k : ℕ) (d : X) → k < m + 1 → f (get_or xs k d) + w (get_or xs k d) ≤ n
  below hx k d h =
      let r = ap f (get_or_read xs m x hm ex d) in
      let s = ap w (get_or_read xs m x hm ex d) in
      elim (cases_eq k m) [ inl e ↦ rw e (omega arith) | inr ne ↦ omega (arith, ris k m d (omega arith) hm) ]
