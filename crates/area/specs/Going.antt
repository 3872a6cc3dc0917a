-- How the records of an area are gone over.
use Rattle.std.specs.Prelude.{◌≡◌, ◌+◌, ◌≤◌, List, length, take, drop, Some, None, Option}
use Rattle.model.specs.Records.{Record, written}
use Rattle.area.specs.declared.records.Spot.{Spot}
use Rattle.area.specs.declared.records.Records.{Records}
use Rattle.area.specs.Finding.{Sound, Located}

-- the bytes left lie in an area
abbrev pub Roomy : Records → Type 0
Roomy s = (s.number ≤ s.place) × (s.place + length s.rest.now ≤ 99996)

-- the records l are left from the next one on
pub record Ahead (l : List Record) (s : Records) : Type 0 where
  pub few : s.number ≤ length l
  pub place_is : s.place ≡ length (written (take s.number l))
  pub rest_is : s.rest.now ≡ drop s.place (written l)

-- a step takes the next record, and its header and data
pub record Steps (s : Records) (x : Spot) (t : Records) : Type 0 where
  pub number_is : x.number ≡ s.number
  pub place_is : x.place ≡ s.place
  pub one : t.number ≡ s.number + 1
  pub size : t.place ≡ s.place + (11 + length x.head.data.now)
  pub same_end : t.place + length t.rest.now ≡ s.place + length s.rest.now
  pub told : (l : List Record) → Sound l → Ahead l s → Located l x.number x.place x.head × Ahead l t

abbrev pub Goes : Records → Option Spot → Records → Type 0
Goes s None t = (l : List Record) → Sound l → Ahead l s → length l ≤ s.number
Goes s (Some x) t = Steps s x t
