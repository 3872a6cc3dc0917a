-- Latitudes and longitudes to the ten-thousandth of a second: ddmmss.ssssX and dddmmss.ssssY.
use Rattle.std.specs.Prelude.{ℕ, ◌≤◌, List, [], ◌∷◌, Option, refl}
use Rattle.std.proofs.Common.{arith}
use Rattle.kind.specs.Kinds.{Laws}
use Rattle.kind.specs.Naming.{Names, named, names_laws}
use Rattle.kinds.specs.declared.layers.Both.{Both}
use Rattle.kinds.specs.Layers.{seq, seq_laws, seq_wide}
use Rattle.kinds.specs.Listing.{Spelt, listed, listed_laws}
use Rattle.kinds.specs.Numbers.{number, number_laws}
use Rattle.kinds.specs.Texts.{word, word_laws}
use Rattle.places.specs.declared.fine.FineAngle.{FineAngle}
use Rattle.places.specs.declared.location.EastWest.{EastWest}
use Rattle.places.specs.declared.location.NorthSouth.{NorthSouth}
use Rattle.places.specs.Sides.{pole_letters, poles, pole_spelt, side_letters, sides, side_spelt}

-- a point
abbrev pub dot : List ℕ
dot = 46 ∷ []

abbrev pub Parts : Type 0 → Type 0
Parts S = Both ℕ (Both ℕ (Both ℕ (Both (Unit {0}) (Both ℕ S))))

-- w digits of degrees to high, minutes, seconds, a point, four places and the side
abbrev pub in_parts : {S : Type 0} → ℕ → ℕ → (S → List ℕ) → List S → List ℕ → Option (Parts S)
in_parts w high letters both s = seq w 10 (number w 0 high) (seq 2 8 (number 2 0 59) (seq 2 6 (number 2 0 59) (seq 1 5 (word dot) (seq 4 1 (number 4 0 9999) (listed letters both))))) s

abbrev pub made : {S : Type 0} → Parts S → FineAngle S
made p = record { degrees = p.front; minutes = p.back.front; seconds = p.back.back.front; fraction = p.back.back.back.back.front; side = p.back.back.back.back.back }

abbrev pub parts : {S : Type 0} → FineAngle S → Parts S
parts v = record { front = v.degrees; back = record { front = v.minutes; back = record { front = v.seconds; back = record { front = tt; back = record { front = v.fraction; back = v.side } } } } }

-- what degrees to either side of a line read as
unfoldable pub fine_angle : {S : Type 0} → ℕ → ℕ → (S → List ℕ) → List S → List ℕ → Option (FineAngle S)
fine_angle w high letters both s = named made (in_parts w high letters both s)

pub names : {S : Type 0} (w high : ℕ) (letters : S → List ℕ) (both : List S) → Names made parts (in_parts w high letters both) (fine_angle w high letters both)
unfolding fine_angle
names w high letters both = record { same = λ s. refl; there = λ p. refl; back = λ v. refl }

pub parts_laws : {S : Type 0} (w high : ℕ) {letters : S → List ℕ} → 1 ≤ w → w ≤ 18 → Spelt 1 letters → (both : List S) → Laws (seq_wide w 10) (in_parts w high letters both)
parts_laws w high some few spelt both =
    seq_laws (number_laws w 0 high some few) (seq_laws (number_laws 2 0 59 (omega arith) (omega arith)) (seq_laws (number_laws 2 0 59 (omega arith) (omega arith)) (seq_laws (word_laws dot (omega arith) (omega arith)) (seq_laws (number_laws 4 0 9999 (omega arith) (omega arith)) (listed_laws spelt both)))))

pub fine_angle_laws : {S : Type 0} (w high : ℕ) {letters : S → List ℕ} → 1 ≤ w → w ≤ 18 → Spelt 1 letters → (both : List S) → Laws (seq_wide w 10) (fine_angle w high letters both)
fine_angle_laws w high {letters} some few spelt both = names_laws (names w high letters both) (parts_laws w high some few spelt both)

-- what a latitude reads as
abbrev pub fine_latitude : List ℕ → Option (FineAngle NorthSouth)
fine_latitude = fine_angle 2 89 pole_letters poles

pub fine_latitude_laws : Laws 12 fine_latitude
fine_latitude_laws = fine_angle_laws 2 89 (omega arith) (omega arith) pole_spelt poles

-- what a longitude reads as
abbrev pub fine_longitude : List ℕ → Option (FineAngle EastWest)
fine_longitude = fine_angle 3 179 side_letters sides

pub fine_longitude_laws : Laws 13 fine_longitude
fine_longitude_laws = fine_angle_laws 3 179 (omega arith) (omega arith) side_spelt sides
