-- Writing one part behind another.
use Rattle.std.proofs.Common.{◌≡◌, ℕ, ◌+◌, ◌-◌, ◌≤◌, List, [], ◌∷◌, ◌++◌, length, take, drop, set, sym, refl, ap, ◌∙◌, ap₂, append_assoc, append-nil, arith, length-append, length-drop, length-set, length-take}
use borrow.Rule.Slice.PartMut.{put_mid, post_of}
use Rattle.kinds.specs.Digits.{digits, length_digits}
use Rattle.std.proofs.lemmas.List.{take_at, drop_at, drop_all}

-- b over all that stands behind f
pub two : (f b r : List ℕ) (i n : ℕ) → length f ≡ i → length r ≤ n → put_mid i n (f ++ r) b ≡ f ++ b
two f b r i n e h = ap₂ ◌++◌ (take_at f r i e) (ap (λ z. b ++ drop n z) (drop_at f r i e) ∙ ap (λ z. b ++ z) (drop_all n r h) ∙ append-nil b)

set_behind : (f r : List ℕ) (x y : ℕ) → set (f ++ (x ∷ r)) (length f) y ≡ (f ++ (y ∷ [])) ++ r
set_behind [] r x y = refl
set_behind (c ∷ f) r x y = ap (λ l. c ∷ l) (set_behind f r x y)

-- a byte behind f, and b over all that stands behind it
pub three : (f b r : List ℕ) (at y : ℕ) → length f ≡ at → 1 ≤ length r → put_mid (at + 1) (length (set (f ++ r) at y) - (at + 1)) (set (f ++ r) at y) b ≡ f ++ (y ∷ b)
three f b [] at y e h = let bad : ⊥ = omega arith in elim bad [ ]
three f b (x ∷ r) at y e h =
    let s : set (f ++ (x ∷ r)) at y ≡ (f ++ (y ∷ [])) ++ r = ap (λ i. set (f ++ (x ∷ r)) i y) (sym e) ∙ set_behind f r x y in
    let l : length (f ++ (y ∷ [])) ≡ at + 1 = length-append f (y ∷ []) ∙ omega arith in
    let n : length r ≤ length ((f ++ (y ∷ [])) ++ r) - (at + 1) = omega (arith, length-append (f ++ (y ∷ [])) r, l) in
    rw s (two (f ++ (y ∷ [])) b r (at + 1) (length ((f ++ (y ∷ [])) ++ r) - (at + 1)) l n ∙ append_assoc f (y ∷ []) b)

module _ (out f : List ℕ) (at m : ℕ) (room : at + 1 ≤ length out) (first : f ≡ digits (length (take (at - 0) out)) m) where
  -- the bytes once the front digits and the point are written
  abbrev pub begun : List ℕ
  begun = set (f ++ post_of 0 (at - 0) out) at 46

  front_long : length (take (at - 0) out) ≡ at
  front_long = simp length-take (omega arith)

  rest_long : length (post_of 0 (at - 0) out) ≡ length out - at
  rest_long = simp length-drop (omega arith)

  begun_long : length begun ≡ length out
  begun_long = length-set (f ++ post_of 0 (at - 0) out) at 46 ∙ length-append f (post_of 0 (at - 0) out) ∙ omega (arith, ap length first ∙ length_digits (length (take (at - 0) out)) m, front_long, rest_long)

  -- digits, a point, digits
  pub pointed : (b : List ℕ) (n : ℕ) → b ≡ digits (length (take (length begun - (at + 1)) (drop (at + 1) begun))) n → put_mid (at + 1) (length begun - (at + 1)) begun b ≡ digits at m ++ (46 ∷ digits (length out - (at + 1)) n)
  pointed b n second =
      let l : length f ≡ at = ap length first ∙ length_digits (length (take (at - 0) out)) m ∙ front_long in
      let e : length (take (length begun - (at + 1)) (drop (at + 1) begun)) ≡ length out - (at + 1) = length-take (length begun - (at + 1)) (drop (at + 1) begun) ∙ omega (arith, length-drop (at + 1) begun, begun_long) in
      three f b (post_of 0 (at - 0) out) at 46 l (omega (arith, rest_long)) ∙ ap₂ (λ x y. x ++ (46 ∷ y)) (first ∙ ap (λ k. digits k m) front_long) (second ∙ ap (λ k. digits k n) e)
