-- One capital letter.
use Rattle.std.specs.Prelude.{◌≡◌, ℕ, ◌≤◌, Bool, cond, ◌&&◌, List, [], ◌∷◌, length, Some, None, Option, ◌==◌, nat_le, slice_index, slice_index_or, refl}
use Rattle.std.proofs.Common.{sym, ◌∙◌, ap, arith, eqb-true, leb-true, le-leb}
use Rattle.kind.specs.Kinds.{Laws}
use Rattle.kind.specs.Options.{some_is}
use Rattle.kinds.specs.Bytes.{gate, and_parts}

abbrev pub is_capital : ℕ → Bool
is_capital c = nat_le 65 c && nat_le c 90

-- A to Z, one byte
unfoldable pub letter : List ℕ → Option ℕ
letter s = cond (length s == 1 && is_capital (slice_index s 0)) (Some (slice_index s 0)) None

single : (s : List ℕ) → length s ≡ 1 → s ≡ slice_index s 0 ∷ []
single [] e = let bad : ⊥ = omega arith in elim bad [ ]
single (c ∷ []) e = refl
single (c ∷ d ∷ s) e = let bad : ⊥ = omega arith in elim bad [ ]

pub letter_is : (s : List ℕ) (v : ℕ) → letter s ≡ Some v → (s ≡ v ∷ []) × (65 ≤ v) × (v ≤ 90)
unfolding letter
letter_is s v e =
    let g = gate (length s == 1 && is_capital (slice_index s 0)) e in
    let p = and_parts (length s == 1) (is_capital (slice_index s 0)) g.0 in
    let q = and_parts (nat_le 65 (slice_index s 0)) (nat_le (slice_index s 0) 90) p.1 in
    let h : slice_index_or s 0 0 ≡ v = some_is g.1 in
    (single s (eqb-true (length s) 1 p.0) ∙ rw h refl, rw h at (leb-true 65 (slice_index s 0) q.0), rw h at (leb-true (slice_index s 0) 90 q.1))

pub letter_from : (s : List ℕ) (v : ℕ) → s ≡ v ∷ [] → 65 ≤ v → v ≤ 90 → letter s ≡ Some v
unfolding letter
letter_from s v e a b = rw (e, le-leb 65 v a, le-leb v 90 b) refl

pub letter_laws : Laws 1 letter
letter_laws = record {
  low = omega arith;
  high = omega arith;
  sized = λ s v e. ap length (letter_is s v e).0;
  once = λ s t v e f. (letter_is s v e).0 ∙ sym (letter_is t v f).0;
}
