-- Reading and writing digits, one after another.
use Rattle.std.proofs.Common.{◌≡◌, ℕ, suc, ◌+◌, ◌-◌, ◌*◌, ◌/◌, ◌%◌, ◌^◌, ◌<◌, ◌≤◌, true, List, [], ◌∷◌, ◌++◌, length, get_or, take, drop, set, sym, ◌∙◌, append_assoc, append-nil, mod-lt, mul_assoc, div-lt_iff_lt-mul, add-mul, arith, pow-add}
use native.Mathlib.Nat.{pow-succ', pow-le-pow_right}
use lib.Arith.{digits_lt}
use Rattle.std.proofs.lemmas.List.{take_more_set, at_drop_more, take_all}
use Rattle.kinds.specs.Digits.{value, digits, figures, figure, ten_pos}

abbrev pub after : ℕ → List ℕ → ℕ
after n [] = n
after n (c ∷ s) = after (n * 10 + (c - 48)) s

pub after_is : (n : ℕ) (s : List ℕ) → after n s ≡ n * 10 ^ length s + value s
after_is n [] = omega arith
after_is n (c ∷ s) =
    let p = 10 ^ length s in
    let a : (n * 10 + (c - 48)) * p ≡ n * 10 * p + (c - 48) * p = add-mul (n * 10) (c - 48) p in
    let b : n * 10 * p ≡ n * (10 * p) = mul_assoc n 10 p in
    after_is (n * 10 + (c - 48)) s ∙ rw (pow-succ' 10 (length s)) (omega (arith, a, b))

pub tens : (i j : ℕ) → i ≤ j → 10 ^ i ≤ 10 ^ j
tens i j h = let one : 1 ≤ 10 = omega arith in pow-le-pow_right one h

pub ten_more : (i : ℕ) → 10 ^ (i + 1) ≡ 10 * 10 ^ i
ten_more i = let e : i + 1 ≡ suc i = omega arith in rw e (pow-succ' 10 i)

-- front digits and back digits say a number of all of them
pub joined_lt : (x y a q : ℕ) → x < 10 ^ a → y < 10 ^ q → a + q ≤ 18 → x * 10 ^ q + y < 10 ^ 18
joined_lt x y a q f b h =
    let l : x * 10 ^ q + y < 10 ^ a * 10 ^ q = digits_lt f b in
    omega (arith, l, tens (a + q) 18 h, pow-add 10 a q)

-- one digit more is written
pub put_step : (out : List ℕ) (i rest n p w : ℕ) → length out ≡ w → i < w → p ≡ 10 ^ (w - 1 - i) → take i out ++ digits (w - i) rest ≡ digits w n → take (i + 1) (set out i (48 + rest / p)) ++ digits (w - (i + 1)) (rest % p) ≡ digits w n
put_step out i rest n p w l h e inv =
    let k = w - 1 - i in
    let a : w - i ≡ suc k = omega arith in
    let b : w - (i + 1) ≡ k = omega arith in
    let h' : i < length out = omega arith in
    let inv' : take i out ++ digits (suc k) rest ≡ digits w n = rw a at inv in
    rw (take_more_set out i (48 + rest / p) h', b, append_assoc, e) inv'

pub rest_less : (n i rest p : ℕ) → i < n → p ≡ 10 ^ (n - 1 - i) → rest < 10 ^ (n - i) → (rest / p < 10) × (rest % p < 10 ^ (n - (i + 1))) × (0 < p)
rest_less n i rest p h e lt =
    let k = n - 1 - i in
    let a : n - i ≡ suc k = omega arith in
    let b : n - (i + 1) ≡ k = omega arith in
    let pos : 0 < p = rw e (ten_pos k) in
    let lt' : rest < 10 * p = rw (e, ← pow-succ' 10 k, ← a) lt in
    let m : rest % p < p = mod-lt rest pos in
    ((div-lt_iff_lt-mul pos).1 lt', rw (b, ← e) m, pos)

pub figure_at : (s : List ℕ) (i : ℕ) → i < length s → figures (drop i s) ≡ true → (48 ≤ get_or s i 0) × (get_or s i 0 ≤ 57) × (figures (drop (i + 1) s) ≡ true)
figure_at s i h e = figure (get_or s i 0) (drop (i + 1) s) (sym (at_drop_more figures s i 0 h) ∙ e)

-- all digits are written
pub put_all : (out : List ℕ) (i rest n w : ℕ) → length out ≡ w → w ≤ i → take i out ++ digits (w - i) rest ≡ digits w n → out ≡ digits w n
put_all out i rest n w l h inv =
    let z : w - i ≡ 0 = omega arith in
    let h' : length out ≤ i = omega arith in
    rw (z, take_all i out h', append-nil out) at inv
