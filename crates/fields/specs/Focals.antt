-- Focal lengths: a number with a point, or else the word 999.99.
use Rattle.std.specs.Prelude.{◌≡◌, ℕ, List, codes, Option, refl}
use Rattle.std.proofs.Common.{arith}
use Rattle.kind.specs.Kinds.{Laws}
use Rattle.kinds.specs.declared.layers.Either.{Either}
use Rattle.kinds.specs.declared.layers.Either.TheVariants.{First, Second}
use Rattle.kinds.specs.declared.point.Decimal.{Decimal}
use Rattle.kinds.specs.Layers.{either, either_laws}
use Rattle.kinds.specs.Points.{point, point_laws}
use Rattle.kinds.specs.Texts.{word, word_laws}
use Rattle.kind.specs.Naming.{Names, named, names_laws}
use Rattle.fields.specs.declared.focal.FocalLength.{FocalLength}
use Rattle.fields.specs.declared.focal.FocalLength.TheVariants.{Known, Unavailable}

abbrev pub Parts : Type 0
Parts = Either Decimal (Unit {0})

abbrev pub in_parts : ℕ → ℕ → List ℕ → Option Parts
in_parts low high = either 6 (point 3 2 low high) (word (codes "999.99"))

abbrev pub made : Parts → FocalLength
made (First d) = Known d
made (Second u) = Unavailable

abbrev pub parts : FocalLength → Parts
parts (Known d) = First d
parts Unavailable = Second tt

unfoldable pub focal : ℕ → ℕ → List ℕ → Option FocalLength
focal low high s = named made (in_parts low high s)

there : (p : Parts) → parts (made p) ≡ p
there (First d) = refl
there (Second u) = refl

back : (v : FocalLength) → made (parts v) ≡ v
back (Known d) = refl
back Unavailable = refl

pub names : (low high : ℕ) → Names made parts (in_parts low high) (focal low high)
unfolding focal
names low high = record { same = λ s. refl; there = there; back = back }

pub parts_laws : (low high : ℕ) → Laws 6 (in_parts low high)
parts_laws low high = either_laws (point_laws 3 2 low high (omega arith) (omega arith)) (word_laws (codes "999.99") (omega arith) (omega arith))

pub focal_laws : (low high : ℕ) → Laws 6 (focal low high)
focal_laws low high = names_laws (names low high) (parts_laws low high)
