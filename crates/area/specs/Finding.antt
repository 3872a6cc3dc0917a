-- A record found by its number, a field by its number.
use Rattle.std.specs.Prelude.{◌≡◌, ℕ, ◌<◌, ◌≤◌, List, [], ◌∷◌, map, length, get_or, take, Some, None, Ok, Err, Option, Result, slice_index, slice_index_or}
use Rattle.book.specs.Meaning.{Meaning}
use Rattle.refusal.specs.declared.fault.Fault.{Fault}
use Rattle.model.specs.declared.area.Area.{Area}
use Rattle.model.specs.Ledgers.{Ledger, Stands, LookRefuses}
use Rattle.model.specs.Records.{Record, TableRow, TableField, GoodTag, Begun, Full, joined, written}
use Rattle.model.specs.Rules.{nothing}
use Rattle.walk.specs.declared.header.Header.{Header}
use Rattle.area.specs.declared.part.Part.{Part}
use Rattle.area.specs.declared.records.RecordBytes.{RecordBytes}
use Rattle.area.specs.declared.records.Spot.{Spot}

-- records whose tags and lengths a header can say
abbrev pub Sound : List Record → Type 0
Sound [] = Unit {0}
Sound (e ∷ l) = GoodTag e.tag × (1 ≤ length (joined e.spellings)) × (length (joined e.spellings) ≤ 99985) × Sound l

-- record n of l, with its place
pub record Located (l : List Record) (n : ℕ) (place : ℕ) (h : Header) : Type 0 where
  pub there : n < length l
  pub place_is : place ≡ length (written (take n l))
  pub tag_is : h.tag ≡ (get_or l n nothing).tag
  pub data_is : h.data.now ≡ joined (get_or l n nothing).spellings

abbrev pub Found : List Record → ℕ → Option Spot → Type 0
Found l n None = length l ≤ n
Found l n (Some x) = Located l n x.place x.head

-- the name numbers of a record's fields, in order
abbrev pub names : {V : Type 0} → List (TableField V) → List ℕ
names fs = map (λ f. f.name) fs

-- field k of the spellings ss, with these name numbers, and where it begins in the data
pub record Parted (ss : List (List ℕ)) (ns : List ℕ) (k : ℕ) (p : Part) : Type 0 where
  pub there : k < length ss
  pub name_is : p.name ≡ slice_index ns k
  pub start_is : p.start ≡ length (joined (take k ss))
  pub width_is : p.width ≡ length (slice_index_or ss k [])

abbrev pub Fielded : List (List ℕ) → List ℕ → ℕ → Option Part → Type 0
Fielded ss ns k None = length ss ≤ k
Fielded ss ns k (Some p) = Parted ss ns k p

-- the data is a whole record's, with these spellings and fields
pub record Holds {V : Type 0} (m : Meaning V) (tag d : List ℕ) (ss : List (List ℕ)) (fs : List (TableField V)) : Type 0 where
  pub begun : Begun m tag ss fs
  pub full : Full m tag ss
  pub bytes : joined ss ≡ d

-- the bytes of the finished records of an area that stands for a ledger
pub record Lent {V : Type 0} (m : Meaning V) (buf : List ℕ) (a : Area) (bytes : List ℕ) : Type 0 where
  pub ledger : Ledger
  pub table : List (TableRow V)
  pub stood : Stands m buf a ledger table
  pub is : bytes ≡ written ledger.records
  pub there : bytes ≡ take a.end buf

abbrev pub Lends : {V : Type 0} → Meaning V → List ℕ → Area → Result RecordBytes Fault → Type 0
Lends m buf a (Ok bytes) = Lent m buf a bytes.all.now
Lends m buf a (Err f) = LookRefuses m buf a f
