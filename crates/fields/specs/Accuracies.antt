-- Accuracies: a number with a point, or else the word 000.00, or else the word 000000.
use Rattle.std.specs.Prelude.{◌≡◌, ℕ, List, codes, Option, refl}
use Rattle.std.proofs.Common.{arith}
use Rattle.kind.specs.Kinds.{Laws}
use Rattle.kinds.specs.declared.layers.Either.{Either}
use Rattle.kinds.specs.declared.layers.Either.TheVariants.{First, Second}
use Rattle.kinds.specs.declared.point.Decimal.{Decimal}
use Rattle.kinds.specs.Layers.{either, either_laws}
use Rattle.kinds.specs.Points.{point, point_laws}
use Rattle.kinds.specs.Texts.{word, word_laws}
use Rattle.kind.specs.Naming.{Names, named, names_laws}
use Rattle.fields.specs.declared.accuracy.Accuracy.{Accuracy}
use Rattle.fields.specs.declared.accuracy.Accuracy.TheVariants.{Known, ZeroPoint, Zeros}

abbrev pub Parts : Type 0
Parts = Either Decimal (Either (Unit {0}) (Unit {0}))

abbrev pub in_parts : ℕ → ℕ → List ℕ → Option Parts
in_parts low high = either 6 (point 3 2 low high) (either 6 (word (codes "000.00")) (word (codes "000000")))

abbrev pub made : Parts → Accuracy
made (First d) = Known d
made (Second (First u)) = ZeroPoint
made (Second (Second u)) = Zeros

abbrev pub parts : Accuracy → Parts
parts (Known d) = First d
parts ZeroPoint = Second (First tt)
parts Zeros = Second (Second tt)

unfoldable pub accuracy : ℕ → ℕ → List ℕ → Option Accuracy
accuracy low high s = named made (in_parts low high s)

there : (p : Parts) → parts (made p) ≡ p
there (First d) = refl
there (Second (First u)) = refl
there (Second (Second u)) = refl

back : (v : Accuracy) → made (parts v) ≡ v
back (Known d) = refl
back ZeroPoint = refl
back Zeros = refl

pub names : (low high : ℕ) → Names made parts (in_parts low high) (accuracy low high)
unfolding accuracy
names low high = record { same = λ s. refl; there = there; back = back }

pub parts_laws : (low high : ℕ) → Laws 6 (in_parts low high)
parts_laws low high = either_laws (point_laws 3 2 low high (omega arith) (omega arith)) (either_laws (word_laws (codes "000.00") (omega arith) (omega arith)) (word_laws (codes "000000") (omega arith) (omega arith)))

pub accuracy_laws : (low high : ℕ) → Laws 6 (accuracy low high)
accuracy_laws low high = names_laws (names low high) (parts_laws low high)
