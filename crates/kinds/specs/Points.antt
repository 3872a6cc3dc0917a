-- A number with a point, ranged without it.
use Rattle.std.specs.Prelude.{◌≡◌, ℕ, suc, ◌+◌, ◌*◌, ◌/◌, ◌%◌, ◌^◌, ◌<◌, ◌≤◌, Bool, true, cond, ◌&&◌, List, ◌∷◌, ◌++◌, length, take, drop, Some, None, Option, ◌==◌, slice_index, slice_index_or, refl}
use Rattle.std.proofs.Common.{sym, ◌∙◌, ap, ap₂, arith, length-take, length-drop, length-append, pow-add, drop-cons, add-one, mod-lt, div-add-mod', div-lt_iff_lt-mul, eqb-true, eq-eqb}
use Rattle.std.proofs.Math.Seq.{split_at}
use Rattle.std.proofs.lemmas.List.{take_at, drop_at}
use Rattle.kind.specs.Kinds.{Laws}
use Rattle.kinds.specs.declared.point.Decimal.{Decimal}
use Rattle.kind.specs.Options.{some_is, never}
use Rattle.kinds.specs.Bytes.{and_parts, gate, within_parts, within_both}
use Rattle.kinds.specs.Digits.{figures, value, digits, value_append, value_digits, figures_digits, length_digits, ten_pos}
use Rattle.kinds.specs.Numbers.{number, number_is, number_from, number_under, number_laws}

-- the bytes but the one at a
abbrev pub without : ℕ → List ℕ → List ℕ
without a s = take a s ++ drop (a + 1) s

-- a number as one with q digits behind the point
abbrev pub pointed : ℕ → Option ℕ → Option Decimal
pointed q None = None
pointed q (Some n) = Some (record { digits = n; places = q })

abbrev pub has_point : ℕ → ℕ → List ℕ → Bool
has_point a q s = length s == a + 1 + q && slice_index s a == 46

-- a digits, a point and q digits read as the number that the digits say, if it is in range
unfoldable pub point : ℕ → ℕ → ℕ → ℕ → List ℕ → Option Decimal
point a q low high s = cond (has_point a q s) (pointed q (number (a + q) low high (without a s))) None

pub record PointIs (a q low high : ℕ) (s : List ℕ) (n : ℕ) : Type 0 where
  pub long : length s ≡ a + 1 + q
  pub dot : slice_index_or s a 0 ≡ 46
  pub front : figures (take a s) ≡ true
  pub back : figures (drop (a + 1) s) ≡ true
  pub says : value (take a s) * 10 ^ q + value (drop (a + 1) s) ≡ n
  pub least : low ≤ n
  pub most : n ≤ high

pointed_is : (q : ℕ) (x : Option ℕ) (v : Decimal) → pointed q x ≡ Some v → (x ≡ Some v.digits) × (v.places ≡ q)
pointed_is q None v e = never e
pointed_is q (Some n) v e = let h : record { digits = n; places = q } ≡ v = some_is e in (ap (λ d. Some d.digits) h, ap (λ d. d.places) (sym h))

module _ (a q : ℕ) (s : List ℕ) (long : length s ≡ a + 1 + q) where
  front_long : length (take a s) ≡ a
  front_long = simp length-take (omega arith)

  back_long : length (drop (a + 1) s) ≡ q
  back_long = simp length-drop (omega arith)

  -- what the digits without the point say
  without_says : value (without a s) ≡ value (take a s) * 10 ^ q + value (drop (a + 1) s)
  without_says = value_append (take a s) (drop (a + 1) s) ∙ ap (λ k. value (take a s) * 10 ^ k + value (drop (a + 1) s)) back_long

  without_long : length (without a s) ≡ a + q
  without_long = length-append (take a s) (drop (a + 1) s) ∙ rw (front_long, back_long) refl

  -- the point goes in again
  rejoined : slice_index_or s a 0 ≡ 46 → s ≡ take a (without a s) ++ (46 ∷ drop a (without a s))
  rejoined d =
      let h : a < length s = omega arith in
      let x = take_at (take a s) (drop (a + 1) s) a front_long in
      let y = drop_at (take a s) (drop (a + 1) s) a front_long in
      rw (x, y, add-one a, ← d) (split_at s a 0 h)

pub point_parts : (a q low high : ℕ) (s : List ℕ) (v : Decimal) → point a q low high s ≡ Some v → (length s ≡ a + 1 + q) × (slice_index s a ≡ 46) × (number (a + q) low high (without a s) ≡ Some v.digits) × (v.places ≡ q)
unfolding point
point_parts a q low high s v e =
    let g = gate (has_point a q s) e in
    let p = and_parts (length s == a + 1 + q) (slice_index s a == 46) g.0 in
    let x = pointed_is q (number (a + q) low high (without a s)) v g.1 in
    (eqb-true (length s) (a + 1 + q) p.0, eqb-true (slice_index s a) 46 p.1, x.0, x.1)

pub point_is : (a q low high : ℕ) (s : List ℕ) (v : Decimal) → point a q low high s ≡ Some v → PointIs a q low high s v.digits
point_is a q low high s v e =
    let x = point_parts a q low high s v e in
    let n = number_is (a + q) low high (without a s) v.digits x.2 in
    let f = within_parts 48 57 (take a s) (drop (a + 1) s) n.plain in
    record { long = x.0; dot = x.1; front = f.0; back = f.1; says = sym (without_says a q s x.0) ∙ n.says; least = n.least; most = n.most }

pub point_from : (a q low high : ℕ) (s : List ℕ) (n : ℕ) → PointIs a q low high s n → point a q low high s ≡ Some (record { digits = n; places = q })
unfolding point
point_from a q low high s n p =
    let x = number_from (a + q) low high (without a s) n (record {
      long = without_long a q s p.long;
      plain = within_both 48 57 (take a s) (drop (a + 1) s) p.front p.back;
      least = p.least;
      most = p.most;
      says = without_says a q s p.long ∙ p.says;
    }) in
    rw (eq-eqb (length s) (a + 1 + q) p.long, eq-eqb (slice_index s a) 46 p.dot, x) refl

pub point_laws : (a q low high : ℕ) → 1 ≤ a → a + q ≤ 18 → Laws (a + 1 + q) (point a q low high)
point_laws a q low high one few = record {
  low = omega arith;
  high = omega arith;
  sized = λ s v e. (point_parts a q low high s v e).0;
  once = λ s t v e f.
      let x = point_parts a q low high s v e in
      let y = point_parts a q low high t v f in
      let some : 1 ≤ a + q = omega arith in
      let same = (number_laws (a + q) low high some few).once (without a s) (without a t) v.digits x.2 y.2 in
      rejoined a q s x.0 x.1 ∙ ap (λ r. take a r ++ (46 ∷ drop a r)) same ∙ sym (rejoined a q t y.0 y.1);
}

-- the digits of a number in range, with the point, read as it
pub point_spelled : (a q low high n : ℕ) (s : List ℕ) → s ≡ digits a (n / 10 ^ q) ++ (46 ∷ digits q (n % 10 ^ q)) → n / 10 ^ q < 10 ^ a → low ≤ n → n ≤ high → point a q low high s ≡ Some (record { digits = n; places = q })
point_spelled a q low high n s e lt i j =
    let f = digits a (n / 10 ^ q) in
    let b = digits q (n % 10 ^ q) in
    let fl : length f ≡ a = length_digits a (n / 10 ^ q) in
    let bl : length b ≡ q = length_digits q (n % 10 ^ q) in
    let m : n % 10 ^ q < 10 ^ q = mod-lt n (ten_pos q) in
    let tf : take a s ≡ f = ap (take a) e ∙ take_at f (46 ∷ b) a fl in
    let dd : drop a s ≡ 46 ∷ b = ap (drop a) e ∙ drop_at f (46 ∷ b) a fl in
    let long : length s ≡ a + 1 + q = ap length e ∙ length-append f (46 ∷ b) ∙ omega arith in
    let lt' : a < length s = omega arith in
    let split : slice_index_or s a 0 ∷ drop (suc a) s ≡ 46 ∷ b = sym (drop-cons s a 0 lt') ∙ dd in
    let db : drop (a + 1) s ≡ b = rw (add-one a) (cc) in
    point_from a q low high s n (record {
      long = long;
      dot = cc;
      front = ap figures tf ∙ figures_digits a (n / 10 ^ q) lt;
      back = ap figures db ∙ figures_digits q (n % 10 ^ q) m;
      says = ap₂ (λ x y. value x * 10 ^ q + value y) tf db ∙ rw (value_digits a (n / 10 ^ q) lt, value_digits q (n % 10 ^ q) m) (div-add-mod' n (10 ^ q));
      least = i;
      most = j;
    })

-- a value that reads has no more digits than there is room for
pub point_under : (a q low high : ℕ) (s : List ℕ) (v : Decimal) → point a q low high s ≡ Some v → v.digits / 10 ^ q < 10 ^ a
point_under a q low high s v e =
    let x = point_parts a q low high s v e in
    let u = number_under (a + q) low high (without a s) v.digits x.2 in
    (div-lt_iff_lt-mul (ten_pos q)).1 (rw (pow-add 10 a q) at u)
