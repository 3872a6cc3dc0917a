-- The sides of the equator and of the prime meridian, a letter each.
use Rattle.std.specs.Prelude.{◌≡◌, ℕ, List, [], ◌∷◌, length, Some, refl}
use Rattle.std.proofs.Common.{arith}
use Rattle.places.specs.declared.location.EastWest.{EastWest}
use Rattle.places.specs.declared.location.EastWest.TheVariants.{East, West}
use Rattle.places.specs.declared.location.NorthSouth.{NorthSouth}
use Rattle.places.specs.declared.location.NorthSouth.TheVariants.{North, South}
use Rattle.kinds.specs.Listing.{Spelt, listed, apart_in}

-- one letter each, by which each is found again in a list of them
lettered : {V : Type 0} (letters : V → List ℕ) (every : List V) → ((v : V) → (length (letters v) ≡ 1) × (listed letters every (letters v) ≡ Some v)) → Spelt 1 letters
lettered letters every each = record { low = omega arith; high = omega arith; long = λ v. (each v).0; apart = apart_in letters every (λ v. (each v).1) }

-- N and S
abbrev pub pole_letters : NorthSouth → List ℕ
pole_letters North = 78 ∷ []
pole_letters South = 83 ∷ []

abbrev pub poles : List NorthSouth
poles = North ∷ South ∷ []

pole_each : (v : NorthSouth) → (length (pole_letters v) ≡ 1) × (listed pole_letters poles (pole_letters v) ≡ Some v)
pole_each North = (refl, refl)
pole_each South = (refl, refl)

pub pole_spelt : Spelt 1 pole_letters
pole_spelt = lettered pole_letters poles pole_each

-- E and W
abbrev pub side_letters : EastWest → List ℕ
side_letters East = 69 ∷ []
side_letters West = 87 ∷ []

abbrev pub sides : List EastWest
sides = East ∷ West ∷ []

side_each : (v : EastWest) → (length (side_letters v) ≡ 1) × (listed side_letters sides (side_letters v) ≡ Some v)
side_each East = (refl, refl)
side_each West = (refl, refl)

pub side_spelt : Spelt 1 side_letters
side_spelt = lettered side_letters sides side_each
