-- The units of lengths and spacings, a letter each.
use Rattle.std.specs.Prelude.{◌≡◌, ℕ, List, [], ◌∷◌, length, Some, refl}
use Rattle.std.proofs.Common.{arith}
use Rattle.codes.specs.declared.unit.Unit.{Unit}
use Rattle.codes.specs.declared.unit.Unit.TheVariants.{Feet, Meters, Microradians, Unknown}
use Rattle.kinds.specs.Listing.{Spelt, listed, apart_in}

-- f, m, r and u
abbrev pub letters : Unit → List ℕ
letters Feet = 102 ∷ []
letters Meters = 109 ∷ []
letters Microradians = 114 ∷ []
letters Unknown = 117 ∷ []

-- the units of a length
unfoldable pub lengths : List Unit
lengths = Feet ∷ Meters ∷ []

-- the units of a spacing
unfoldable pub spacings : List Unit
spacings = Feet ∷ Meters ∷ Microradians ∷ Unknown ∷ []

long : (u : Unit) → length (letters u) ≡ 1
long Feet = refl
long Meters = refl
long Microradians = refl
long Unknown = refl

found : (u : Unit) → listed letters spacings (letters u) ≡ Some u
unfolding spacings
found Feet = refl
found Meters = refl
found Microradians = refl
found Unknown = refl

pub spelt : Spelt 1 letters
spelt = record { low = omega arith; high = omega arith; long = long; apart = apart_in letters spacings found }
