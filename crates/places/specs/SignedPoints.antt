-- A number with a point and a sign; minus zero does not read.
use Rattle.std.specs.Prelude.{◌≡◌, ℕ, ◌+◌, ◌≤◌, List, [], ◌∷◌, Option, refl}
use Rattle.std.proofs.Common.{sym, ap, arith}
use Rattle.kind.specs.Kinds.{Laws}
use Rattle.kinds.specs.declared.layers.Both.{Both}
use Rattle.kinds.specs.declared.layers.Either.{Either}
use Rattle.kinds.specs.declared.layers.Either.TheVariants.{First, Second}
use Rattle.kinds.specs.declared.point.Decimal.{Decimal}
use Rattle.kinds.specs.declared.point.Point.{Point}
use Rattle.kinds.specs.Layers.{either, either_laws, seq, seq_laws, seq_wide}
use Rattle.kinds.specs.Points.{point, point_laws}
use Rattle.kinds.specs.Texts.{word, word_laws}
use Rattle.places.specs.declared.signed_point.SignedDecimal.{SignedDecimal}
use Rattle.places.specs.declared.signed_point.SignedDecimal.TheVariants.{Plus, Minus}
use Rattle.kind.specs.Naming.{Names, named, names_laws}

abbrev pub plus : List ℕ
plus = 43 ∷ []

abbrev pub minus : List ℕ
minus = 45 ∷ []

-- a sign, a digits, a point and q digits
abbrev pub wide_with : ℕ → ℕ → ℕ
wide_with a q = seq_wide 1 (a + 1 + q)

abbrev pub Parts : Type 0
Parts = Either (Both (Unit {0}) Decimal) (Both (Unit {0}) Decimal)

-- plus and a number to high, or else minus and one from the smallest above zero
abbrev pub in_parts : ℕ → ℕ → ℕ → List ℕ → Option Parts
in_parts a q high s = either (wide_with a q) (seq 1 (a + 1 + q) (word plus) (point a q 0 high)) (seq 1 (a + 1 + q) (word minus) (point a q 1 high)) s

abbrev pub made : Parts → SignedDecimal
made (First p) = Plus p.back
made (Second p) = Minus p.back

abbrev pub parts : SignedDecimal → Parts
parts (Plus d) = First (record { front = tt; back = d })
parts (Minus d) = Second (record { front = tt; back = d })

-- what a number with a point and a sign reads as
unfoldable pub signed_point : ℕ → ℕ → ℕ → List ℕ → Option SignedDecimal
signed_point a q high s = named made (in_parts a q high s)

there : (p : Parts) → parts (made p) ≡ p
there (First p) = refl
there (Second p) = refl

back : (v : SignedDecimal) → made (parts v) ≡ v
back (Plus d) = refl
back (Minus d) = refl

pub names : (a q high : ℕ) → Names made parts (in_parts a q high) (signed_point a q high)
unfolding signed_point
names a q high = record { same = λ s. refl; there = there; back = back }

-- digits of these widths in this range
pub record Sized (p : Point) (a q low high : ℕ) : Type 0 where
  pub whole : p.whole ≡ a
  pub places : p.places ≡ q
  pub least : p.low ≡ low
  pub most : p.high ≡ high

-- the digits of p behind a plus, or else those of m behind a minus
abbrev pub signs : Point → Point → List ℕ → Option Parts
signs p m s =
    either (wide_with p.whole p.places) (seq 1 (p.whole + 1 + p.places) (word plus) (point p.whole p.places p.low p.high)) (seq 1 (m.whole + 1 + m.places) (word minus) (point m.whole m.places m.low m.high)) s

pub names_with : (a q high : ℕ) (p m : Point) → Sized p a q 0 high → Sized m a q 1 high → Names made parts (signs p m) (signed_point a q high)
unfolding signed_point
names_with a q high p m x y = record {
  same = λ s.
      let e : signs p m s ≡ in_parts a q high s = rw (x.whole, x.places, x.least, x.most, y.whole, y.places, y.least, y.most) refl in
      ap (named made) (sym e);
  there = there;
  back = back;
}

pub parts_laws : (a q high : ℕ) → 1 ≤ a → a + q ≤ 18 → Laws (wide_with a q) (in_parts a q high)
parts_laws a q high some few = either_laws (seq_laws (word_laws plus (omega arith) (omega arith)) (point_laws a q 0 high some few)) (seq_laws (word_laws minus (omega arith) (omega arith)) (point_laws a q 1 high some few))

pub signed_point_laws : (a q high : ℕ) → 1 ≤ a → a + q ≤ 18 → Laws (wide_with a q) (signed_point a q high)
signed_point_laws a q high some few = names_laws (names a q high) (parts_laws a q high some few)
