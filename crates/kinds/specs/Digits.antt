-- Digits of a fixed width, top digit first: w digits say each number below 10 ^ w in one way.
use Rattle.std.specs.Prelude.{◌≡◌, ℕ, zero, suc, ◌+◌, ◌-◌, ◌*◌, ◌/◌, ◌%◌, ◌^◌, ◌<◌, ◌≤◌, Bool, true, ◌&&◌, leb, List, [], ◌∷◌, ◌++◌, length, nat_le, refl}
use Rattle.std.proofs.Common.{sym, ◌∙◌, ap, arith, mul_assoc, add-mul, div-add-mod', div-lt_iff_lt-mul, mod-lt, length-append, pow-add, leb-true, le-leb}
use Rattle.std.proofs.Math.Nat.{pow-succ', pow-le-pow_right}
use Rattle.std.proofs.Math.Arith.{digits_lt, digits_div, digits_mod}
use Rattle.kinds.specs.Bytes.{within, and_parts}

-- each byte is a digit
abbrev pub figures : List ℕ → Bool
figures s = within 48 57 s

-- the number that digits say
abbrev pub value : List ℕ → ℕ
value [] = 0
value (c ∷ s) = (c - 48) * 10 ^ length s + value s

-- the w digits of n: its top digit, and those of the rest
abbrev pub digits : ℕ → ℕ → List ℕ
digits zero n = []
digits (suc w) n = (48 + n / 10 ^ w) ∷ digits w (n % 10 ^ w)

pub ten_pos : (k : ℕ) → 0 < 10 ^ k
ten_pos k = let one : 1 ≤ 10 = omega arith in let z : 0 ≤ k = omega arith in let h : 10 ^ 0 ≤ 10 ^ k = pow-le-pow_right one z in omega (arith, h)

pub figure : (c : ℕ) (s : List ℕ) → figures (c ∷ s) ≡ true → (48 ≤ c) × (c ≤ 57) × (figures s ≡ true)
figure c s e =
    let p = and_parts (nat_le 48 c && nat_le c 57) (figures s) e in
    let q = and_parts (nat_le 48 c) (nat_le c 57) p.0 in
    (leb-true 48 c q.0, leb-true c 57 q.1, p.1)

pub value_lt : (s : List ℕ) → figures s ≡ true → value s < 10 ^ length s
value_lt [] e = omega arith
value_lt (c ∷ s) e =
    let p = figure c s e in
    let d : c - 48 < 10 = omega (arith, p.1) in
    rw (pow-succ' 10 (length s)) (digits_lt d (value_lt s p.2))

pub digits_value : (s : List ℕ) → figures s ≡ true → digits (length s) (value s) ≡ s
digits_value [] e = refl
digits_value (c ∷ s) e =
    let p = figure c s e in
    let lt = value_lt s p.2 in
    let top : 48 + (c - 48) ≡ c = omega (arith, p.0) in
    let q : ((c - 48) * 10 ^ length s + value s) / 10 ^ length s ≡ c - 48 = digits_div (c - 48) lt in
    let r : ((c - 48) * 10 ^ length s + value s) % 10 ^ length s ≡ value s = digits_mod (c - 48) lt in
    let ih = digits_value s p.2 in
    rw (q, r, top, ih) refl

pub length_digits : (w n : ℕ) → length (digits w n) ≡ w
length_digits zero n = refl
length_digits (suc w) n = ap suc (length_digits w (n % 10 ^ w))

pub value_digits : (w n : ℕ) → n < 10 ^ w → value (digits w n) ≡ n
value_digits zero n h = omega arith
value_digits (suc w) n h =
    let l = length_digits w (n % 10 ^ w) in
    let ih = value_digits w (n % 10 ^ w) (mod-lt n (ten_pos w)) in
    let d : 48 + n / 10 ^ w - 48 ≡ n / 10 ^ w = omega arith in
    rw (l, ih, d) (div-add-mod' n (10 ^ w))

pub figures_digits : (w n : ℕ) → n < 10 ^ w → figures (digits w n) ≡ true
figures_digits zero n h = refl
figures_digits (suc w) n h =
    let h' : n < 10 * 10 ^ w = rw (← pow-succ' 10 w) h in
    let top : n / 10 ^ w < 10 = (div-lt_iff_lt-mul (ten_pos w)).1 h' in
    let a : leb 48 (48 + n / 10 ^ w) ≡ true = le-leb _ _ (omega arith) in
    let b : leb (48 + n / 10 ^ w) 57 ≡ true = le-leb _ _ (omega arith) in
    rw (a, b) (figures_digits w (n % 10 ^ w) (mod-lt n (ten_pos w)))

-- the law of digits: of one length and one value, there is one spelling
pub value_once : (s t : List ℕ) → figures s ≡ true → figures t ≡ true → length s ≡ length t → value s ≡ value t → s ≡ t
value_once s t a b l v = sym (digits_value s a) ∙ rw (l, v) (digits_value t b)

-- digits behind digits
pub value_append : (s t : List ℕ) → value (s ++ t) ≡ value s * 10 ^ length t + value t
value_append [] t = omega arith
value_append (c ∷ s) t =
    let d = c - 48 in
    let p = 10 ^ length s in
    let q = 10 ^ length t in
    let a : 10 ^ length (s ++ t) ≡ p * q = ap (λ n. 10 ^ n) (length-append s t) ∙ pow-add 10 (length s) (length t) in
    let b : d * 10 ^ length (s ++ t) ≡ d * p * q = ap (λ n. d * n) a ∙ sym (mul_assoc d p q) in
    let e : (d * p + value s) * q ≡ d * p * q + value s * q = add-mul (d * p) (value s) q in
    omega (arith, b, e, value_append s t)
