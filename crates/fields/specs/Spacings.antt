-- Spacings: a number with four places, or else one with two, or else the word 0000000.
use Rattle.std.specs.Prelude.{◌≡◌, ℕ, List, codes, Option, refl}
use Rattle.std.proofs.Common.{arith}
use Rattle.kind.specs.Kinds.{Laws}
use Rattle.kinds.specs.declared.layers.Either.{Either}
use Rattle.kinds.specs.declared.layers.Either.TheVariants.{First, Second}
use Rattle.kinds.specs.declared.point.Decimal.{Decimal}
use Rattle.kinds.specs.Layers.{either, either_laws}
use Rattle.kinds.specs.Points.{point, point_laws}
use Rattle.kinds.specs.Texts.{word, word_laws}
use Rattle.kind.specs.Naming.{Names, named, names_laws}
use Rattle.fields.specs.declared.spacing.PixelSpacing.{PixelSpacing}
use Rattle.fields.specs.declared.spacing.PixelSpacing.TheVariants.{Fine, Coarse, Unknown}

abbrev pub Parts : Type 0
Parts = Either Decimal (Either Decimal (Unit {0}))

abbrev pub in_parts : ℕ → ℕ → List ℕ → Option Parts
in_parts low high = either 7 (point 2 4 low high) (either 7 (point 4 2 low high) (word (codes "0000000")))

abbrev pub made : Parts → PixelSpacing
made (First d) = Fine d
made (Second (First d)) = Coarse d
made (Second (Second u)) = Unknown

abbrev pub parts : PixelSpacing → Parts
parts (Fine d) = First d
parts (Coarse d) = Second (First d)
parts Unknown = Second (Second tt)

unfoldable pub spacing : ℕ → ℕ → List ℕ → Option PixelSpacing
spacing low high s = named made (in_parts low high s)

there : (p : Parts) → parts (made p) ≡ p
there (First d) = refl
there (Second (First d)) = refl
there (Second (Second u)) = refl

back : (v : PixelSpacing) → made (parts v) ≡ v
back (Fine d) = refl
back (Coarse d) = refl
back Unknown = refl

pub names : (low high : ℕ) → Names made parts (in_parts low high) (spacing low high)
unfolding spacing
names low high = record { same = λ s. refl; there = there; back = back }

pub parts_laws : (low high : ℕ) → Laws 7 (in_parts low high)
parts_laws low high = either_laws (point_laws 2 4 low high (omega arith) (omega arith)) (either_laws (point_laws 4 2 low high (omega arith) (omega arith)) (word_laws (codes "0000000") (omega arith) (omega arith)))

pub spacing_laws : (low high : ℕ) → Laws 7 (spacing low high)
spacing_laws low high = names_laws (names low high) (parts_laws low high)
