-- Places in two notations: degrees, minutes and seconds, or else signed degrees.
use Rattle.std.specs.Prelude.{◌≡◌, ℕ, List, Option, refl}
use Rattle.std.proofs.Common.{arith}
use Rattle.kind.specs.Kinds.{Laws}
use Rattle.kinds.specs.declared.layers.Both.{Both}
use Rattle.kinds.specs.declared.layers.Either.{Either}
use Rattle.kinds.specs.declared.layers.Either.TheVariants.{First, Second}
use Rattle.kinds.specs.Layers.{either, either_laws, seq, seq_laws}
use Rattle.places.specs.declared.fine.FineAngle.{FineAngle}
use Rattle.places.specs.declared.location.EastWest.{EastWest}
use Rattle.places.specs.declared.location.NorthSouth.{NorthSouth}
use Rattle.places.specs.declared.place.Place.{Place}
use Rattle.places.specs.declared.place.Place.TheVariants.{Seconds, Degrees}
use Rattle.places.specs.declared.signed_point.SignedDecimal.{SignedDecimal}
use Rattle.places.specs.FineAngles.{fine_latitude, fine_latitude_laws, fine_longitude, fine_longitude_laws}
use Rattle.kind.specs.Naming.{Names, named, names_laws}
use Rattle.places.specs.SignedPoints.{signed_point, signed_point_laws}

abbrev pub Parts : Type 0
Parts = Either (Both (FineAngle NorthSouth) (FineAngle EastWest)) (Both SignedDecimal SignedDecimal)

-- to the ten-thousandth of a second, or else degrees with eight places, to 90 and 180
abbrev pub in_parts : List ℕ → Option Parts
in_parts s = either 25 (seq 12 13 fine_latitude fine_longitude) (seq 12 13 (signed_point 2 8 9000000000) (signed_point 3 8 18000000000)) s

abbrev pub made : Parts → Place
made (First p) = Seconds p.front p.back
made (Second p) = Degrees p.front p.back

abbrev pub parts : Place → Parts
parts (Seconds a b) = First (record { front = a; back = b })
parts (Degrees a b) = Second (record { front = a; back = b })

-- what a place reads as
unfoldable pub place : List ℕ → Option Place
place s = named made (in_parts s)

there : (p : Parts) → parts (made p) ≡ p
there (First p) = refl
there (Second p) = refl

back : (v : Place) → made (parts v) ≡ v
back (Seconds a b) = refl
back (Degrees a b) = refl

pub names : Names made parts in_parts place
unfolding place
names = record { same = λ s. refl; there = there; back = back }

pub parts_laws : Laws 25 in_parts
parts_laws = either_laws (seq_laws fine_latitude_laws fine_longitude_laws) (seq_laws (signed_point_laws 2 8 9000000000 (omega arith) (omega arith)) (signed_point_laws 3 8 18000000000 (omega arith) (omega arith)))

pub place_laws : Laws 25 place
place_laws = names_laws names parts_laws
