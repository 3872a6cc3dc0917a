-- Locations to the minute: ddmmX and dddmmY.
use Rattle.std.specs.Prelude.{ℕ, List, Option, refl}
use Rattle.std.proofs.Common.{arith}
use Rattle.kind.specs.Kinds.{Laws}
use Rattle.kinds.specs.declared.layers.Both.{Both}
use Rattle.kinds.specs.Layers.{seq, seq_laws}
use Rattle.kinds.specs.Numbers.{number, number_laws}
use Rattle.places.specs.declared.location.EastWest.{EastWest}
use Rattle.places.specs.declared.location.Location.{Location}
use Rattle.places.specs.declared.location.NorthSouth.{NorthSouth}
use Rattle.kinds.specs.Listing.{listed, listed_laws}
use Rattle.kind.specs.Naming.{Names, named, names_laws}
use Rattle.places.specs.Sides.{pole_letters, poles, pole_spelt, side_letters, sides, side_spelt}

abbrev pub Parts : Type 0
Parts = Both ℕ (Both ℕ (Both NorthSouth (Both ℕ (Both ℕ EastWest))))

-- degrees and minutes of each, and its side
abbrev pub in_parts : List ℕ → Option Parts
in_parts s = seq 2 9 (number 2 0 89) (seq 2 7 (number 2 0 59) (seq 1 6 (listed pole_letters poles) (seq 3 3 (number 3 0 179) (seq 2 1 (number 2 0 59) (listed side_letters sides))))) s

abbrev pub made : Parts → Location
made p = record { latitude = record { degrees = p.front; minutes = p.back.front; side = p.back.back.front }; longitude = record { degrees = p.back.back.back.front; minutes = p.back.back.back.back.front; side = p.back.back.back.back.back } }

abbrev pub parts : Location → Parts
parts v = record { front = v.latitude.degrees; back = record { front = v.latitude.minutes; back = record { front = v.latitude.side; back = record { front = v.longitude.degrees; back = record { front = v.longitude.minutes; back = v.longitude.side } } } } }

-- what a location reads as
unfoldable pub location : List ℕ → Option Location
location s = named made (in_parts s)

pub names : Names made parts in_parts location
unfolding location
names = record { same = λ s. refl; there = λ p. refl; back = λ v. refl }

pub parts_laws : Laws 11 in_parts
parts_laws = seq_laws (number_laws 2 0 89 (omega arith) (omega arith)) (seq_laws (number_laws 2 0 59 (omega arith) (omega arith)) (seq_laws (listed_laws pole_spelt poles) (seq_laws (number_laws 3 0 179 (omega arith) (omega arith)) (seq_laws (number_laws 2 0 59 (omega arith) (omega arith)) (listed_laws side_spelt sides)))))

pub location_laws : Laws 11 location
location_laws = names_laws names parts_laws
