-- A number: digits of the full width, in range.
use Rattle.std.specs.Prelude.{◌≡◌, ℕ, ◌^◌, ◌<◌, ◌≤◌, Bool, true, cond, ◌&&◌, List, length, Some, None, Option, ◌==◌, nat_le, refl}
use Rattle.std.proofs.Common.{sym, ◌∙◌, ap, subst, arith, eqb-true, leb-true, le-leb, eq-eqb}
use Rattle.kind.specs.Kinds.{Laws}
use Rattle.kind.specs.Options.{some_is}
use Rattle.kinds.specs.Bytes.{and_parts, gate}
use Rattle.kinds.specs.Digits.{figures, value, digits, value_lt, value_once, value_digits, figures_digits, length_digits}

abbrev pub is_number : ℕ → ℕ → ℕ → List ℕ → Bool
is_number w low high s = (length s == w && figures s) && (nat_le low (value s) && nat_le (value s) high)

-- w digits that say a number from low to high read as that number
unfoldable pub number : ℕ → ℕ → ℕ → List ℕ → Option ℕ
number w low high s = cond (is_number w low high s) (Some (value s)) None

pub record NumberIs (w low high : ℕ) (s : List ℕ) (v : ℕ) : Type 0 where
  pub long : length s ≡ w
  pub plain : figures s ≡ true
  pub least : low ≤ v
  pub most : v ≤ high
  pub says : value s ≡ v

pub number_is : (w low high : ℕ) (s : List ℕ) (v : ℕ) → number w low high s ≡ Some v → NumberIs w low high s v
unfolding number
number_is w low high s v e =
    let g = gate (is_number w low high s) e in
    let p = and_parts (length s == w && figures s) (nat_le low (value s) && nat_le (value s) high) g.0 in
    let a = and_parts (length s == w) (figures s) p.0 in
    let b = and_parts (nat_le low (value s)) (nat_le (value s) high) p.1 in
    let h : value s ≡ v = some_is g.1 in
    record { long = eqb-true (length s) w a.0; plain = a.1; least = rw h at (leb-true _ _ b.0); most = rw h at (leb-true _ _ b.1); says = h }

pub number_from : (w low high : ℕ) (s : List ℕ) (v : ℕ) → NumberIs w low high s v → number w low high s ≡ Some v
unfolding number
number_from w low high s v p = rw (p.says, eq-eqb (length s) w p.long, p.plain, le-leb low v p.least, le-leb v high p.most) refl

pub number_laws : (w low high : ℕ) → 1 ≤ w → w ≤ 18 → Laws w (number w low high)
number_laws w low high a b = record {
  low = a;
  high = omega arith;
  sized = λ s v e. (number_is w low high s v e).long;
  once = λ s t v e f.
      let p = number_is w low high s v e in
      let q = number_is w low high t v f in
      value_once s t p.plain q.plain (p.long ∙ sym q.long) (p.says ∙ sym q.says);
}

-- a number that reads is below the power of its width
pub number_under : (w low high : ℕ) (s : List ℕ) (v : ℕ) → number w low high s ≡ Some v → v < 10 ^ w
number_under w low high s v e =
    let p = number_is w low high s v e in
    let h = value_lt s p.plain in
    subst (λ k. v < 10 ^ k) p.long (subst (λ k. k < 10 ^ length s) p.says h)

-- the digits of a number in range read as it
pub number_spelled : (w low high v : ℕ) (s : List ℕ) → s ≡ digits w v → low ≤ v → v ≤ high → v < 10 ^ w → number w low high s ≡ Some v
number_spelled w low high v s e a b lt = number_from w low high s v (record {
  long = ap length e ∙ length_digits w v;
  plain = ap figures e ∙ figures_digits w v lt;
  least = a;
  most = b;
  says = ap value e ∙ value_digits w v lt;
})
