-- Five digits say one number.
use Rattle.std.proofs.Common.{◌≡◌, ℕ, ◌+◌, ◌*◌, ◌/◌, ◌%◌, ◌<◌, ◌≤◌, List, [], ◌∷◌, length, get_or, refl, ◌∙◌, arith}
use Rattle.model.specs.Records.{digits5}

-- a list of five is its five elements
pub five_is : (s : List ℕ) → length s ≡ 5 → s ≡ get_or s 0 0 ∷ get_or s 1 0 ∷ get_or s 2 0 ∷ get_or s 3 0 ∷ get_or s 4 0 ∷ []
five_is [] e = let bad : ⊥ = omega arith in elim bad [ ]
five_is (a ∷ []) e = let bad : ⊥ = omega arith in elim bad [ ]
five_is (a ∷ b ∷ []) e = let bad : ⊥ = omega arith in elim bad [ ]
five_is (a ∷ b ∷ c ∷ []) e = let bad : ⊥ = omega arith in elim bad [ ]
five_is (a ∷ b ∷ c ∷ d ∷ []) e = let bad : ⊥ = omega arith in elim bad [ ]
five_is (a ∷ b ∷ c ∷ d ∷ x ∷ []) e = refl
five_is (a ∷ b ∷ c ∷ d ∷ x ∷ y ∷ s) e = let bad : ⊥ = omega arith in elim bad [ ]

list5 : {a b c d e a' b' c' d' e' : ℕ} → a ≡ a' → b ≡ b' → c ≡ c' → d ≡ d' → e ≡ e' → a ∷ b ∷ c ∷ d ∷ e ∷ [] ≡ a' ∷ b' ∷ c' ∷ d' ∷ e' ∷ []
list5 p q r s t = cc

pub value : (s : List ℕ) (a b c d e : ℕ) → length s ≡ 5 → a < 10 → b < 10 → c < 10 → d < 10 → e < 10 → get_or s 0 0 ≡ 48 + a → get_or s 1 0 ≡ 48 + b → get_or s 2 0 ≡ 48 + c → get_or s 3 0 ≡ 48 + d → get_or s 4 0 ≡ 48 + e → s ≡ digits5 (a * 10000 + b * 1000 + c * 100 + d * 10 + e)
value s a b c d e l ha hb hc hd he p q r t u =
    five_is s l ∙ list5 (p ∙ omega arith) (q ∙ omega arith) (r ∙ omega arith) (t ∙ omega arith) (u ∙ omega arith)

-- two numbers with the same five digits are one
pub same_number : (n k : ℕ) → n ≤ 99999 → k ≤ 99999 → digits5 n ≡ digits5 k → n ≡ k
same_number n k h i e =
    let a : 48 + n / 10000 % 10 ≡ 48 + k / 10000 % 10 = cc in
    let b : 48 + n / 1000 % 10 ≡ 48 + k / 1000 % 10 = cc in
    let c : 48 + n / 100 % 10 ≡ 48 + k / 100 % 10 = cc in
    let d : 48 + n / 10 % 10 ≡ 48 + k / 10 % 10 = cc in
    let x : 48 + n % 10 ≡ 48 + k % 10 = cc in
    omega arith
