-- The eleven bytes of a header, named one by one, are its tag and its five digits.
use Rattle.std.proofs.Common.{◌≡◌, ℕ, ◌-◌, ◌≤◌, List, [], ◌∷◌, length, get_or, take, drop, sym, refl, ap, ◌∙◌, subst, arith, length-drop, length-take-le}
use Rattle.std.proofs.lemmas.List.{take_rest}
use Rattle.model.specs.Walks.{Says}
use Rattle.model.proofs.Lists.{never}

pub record Named (a : List ℕ) : Type 0 where
  pub tag : get_or a 0 0 ∷ get_or a 1 0 ∷ get_or a 2 0 ∷ get_or a 3 0 ∷ get_or a 4 0 ∷ get_or a 5 0 ∷ [] ≡ take 6 a
  pub digits : get_or a 6 0 ∷ get_or a 7 0 ∷ get_or a 8 0 ∷ get_or a 9 0 ∷ get_or a 10 0 ∷ [] ≡ take 5 (drop 6 a)

short : (a : List ℕ) → 11 ≤ length a → length a ≤ 10 → Named a
short a h l = let bad : ⊥ = omega arith in never bad

pub named : (a : List ℕ) → 11 ≤ length a → Named a
named [] h = short [] h (omega arith)
named (a ∷ []) h = short (a ∷ []) h (omega arith)
named (a ∷ b ∷ []) h = short (a ∷ b ∷ []) h (omega arith)
named (a ∷ b ∷ c ∷ []) h = short (a ∷ b ∷ c ∷ []) h (omega arith)
named (a ∷ b ∷ c ∷ d ∷ []) h = short (a ∷ b ∷ c ∷ d ∷ []) h (omega arith)
named (a ∷ b ∷ c ∷ d ∷ e ∷ []) h = short (a ∷ b ∷ c ∷ d ∷ e ∷ []) h (omega arith)
named (a ∷ b ∷ c ∷ d ∷ e ∷ f ∷ []) h = short (a ∷ b ∷ c ∷ d ∷ e ∷ f ∷ []) h (omega arith)
named (a ∷ b ∷ c ∷ d ∷ e ∷ f ∷ g ∷ []) h = short (a ∷ b ∷ c ∷ d ∷ e ∷ f ∷ g ∷ []) h (omega arith)
named (a ∷ b ∷ c ∷ d ∷ e ∷ f ∷ g ∷ i ∷ []) h = short (a ∷ b ∷ c ∷ d ∷ e ∷ f ∷ g ∷ i ∷ []) h (omega arith)
named (a ∷ b ∷ c ∷ d ∷ e ∷ f ∷ g ∷ i ∷ j ∷ []) h = short (a ∷ b ∷ c ∷ d ∷ e ∷ f ∷ g ∷ i ∷ j ∷ []) h (omega arith)
named (a ∷ b ∷ c ∷ d ∷ e ∷ f ∷ g ∷ i ∷ j ∷ k ∷ []) h = short (a ∷ b ∷ c ∷ d ∷ e ∷ f ∷ g ∷ i ∷ j ∷ k ∷ []) h (omega arith)
named (a ∷ b ∷ c ∷ d ∷ e ∷ f ∷ g ∷ i ∷ j ∷ k ∷ l ∷ r) h = record { tag = refl; digits = refl }

-- the first k bytes behind the header
pub data_part : (a : List ℕ) (k : ℕ) → take (k - 0) (take (length a - 11) (drop 11 a)) ≡ take k (drop 11 a)
data_part a k = let z : k - 0 ≡ k = omega arith in ap (λ i. take i (take (length a - 11) (drop 11 a))) z ∙ ap (take k) (take_rest a 11)

pub data_long : (a : List ℕ) (k : ℕ) → k ≤ length (take (length a - 11) (drop 11 a)) → (length (take k (drop 11 a)) ≡ k) × (k ≤ length a - 11)
data_long a k h =
    let e : length (take (length a - 11) (drop 11 a)) ≡ length a - 11 = ap length (take_rest a 11) ∙ length-drop 11 a in
    let l = length-drop 11 a in
    (length-take-le k (drop 11 a) (omega arith), omega arith)

pub record Held (a d : List ℕ) : Type 0 where
  pub says : Says (take 5 (drop 6 a)) (length d)
  pub is : d ≡ take (length d) (drop 11 a)
  pub there : length d ≤ length a - 11

pub held : (a : List ℕ) (k : ℕ) → k ≤ length (take (length a - 11) (drop 11 a)) → Says (take 5 (drop 6 a)) k → Held a (take (k - 0) (take (length a - 11) (drop 11 a)))
held a k h s =
    let e = data_part a k in
    let l = data_long a k h in
    let n : length (take (k - 0) (take (length a - 11) (drop 11 a))) ≡ k = ap length e ∙ l.0 in
    let m = l.1 in
    record { says = subst (Says (take 5 (drop 6 a))) (sym n) s; is = e ∙ ap (λ i. take i (drop 11 a)) (sym n); there = omega arith }
