-- The ledger, and when a buffer stands for one.
use Rattle.std.specs.Prelude.{◌≡◌, ℕ, ◌+◌, ◌<◌, ◌≤◌, min, true, List, [], length, take, drop, Some, None, Option}
use Rattle.book.specs.Meaning.{Meaning}
use Rattle.refusal.specs.declared.fault.Cause.TheVariants.{TooLong, BadTag}
use Rattle.refusal.specs.declared.fault.Fault.{Fault}
use Rattle.model.specs.declared.area.Area.{Area}
use Rattle.refusal.specs.Faults.{fault}
use Rattle.model.specs.Records.{Record, TableField, TableRow, GoodTag, Begun, AllWhole, joined, written}
use Rattle.model.specs.Walks.{Fails, Refuses}

-- the finished records, and the draft if one is open
pub record Ledger : Type 0 where
  pub records : List Record
  pub draft : Option Record

-- the area value that goes with a ledger
abbrev pub drafted : Option Record → Option ℕ
drafted None = None
drafted (Some e) = Some (length (joined e.spellings))

abbrev pub area_of : Ledger → Area
area_of L = record { end = length (written L.records); draft = drafted L.draft }

-- how many bytes of its buffer an area takes up, an open draft's too
abbrev pub beyond : Option ℕ → ℕ
beyond None = 0
beyond (Some k) = 11 + k

abbrev pub reach : Area → ℕ
reach a = a.end + beyond a.draft

-- how many bytes may be taken up
abbrev pub room : List ℕ → ℕ
room buf = min (length buf) 99996

module _ {V : Type 0} (m : Meaning V) where
  -- behind the area, tail begins with a draft's tag, five bytes that may be anything, and the draft's spellings
  pub record Drafts (tail : List ℕ) (e : Record) : Type 0 where
    pub good : GoodTag e.tag
    pub tag : take 6 tail ≡ e.tag
    pub bytes : take (length (joined e.spellings)) (drop 11 tail) ≡ joined e.spellings
    pub fields : List (TableField V)
    pub begun : Begun m e.tag e.spellings fields

  abbrev pub Drafting : List ℕ → Option Record → Type 0
  Drafting tail None = Unit {0}
  Drafting tail (Some e) = Drafts tail e

  -- the buffer and the area value stand for the ledger L, whose records read as the table t
  pub record Stands (buf : List ℕ) (a : Area) (L : Ledger) (t : List (TableRow V)) : Type 0 where
    pub is : a ≡ area_of L
    pub fits : reach a ≤ room buf
    pub bytes : take a.end buf ≡ written L.records
    pub whole : AllWhole m L.records t
    pub draft : Drafting (drop a.end buf) L.draft

  -- they stand for none, and this is the refusal
  pub data LookRefuses (buf : List ℕ) (a : Area) : Fault → Type 0 where
    long : room buf < reach a → LookRefuses buf a (fault TooLong 0 0 0)
    walk : {f : Fault} → reach a ≤ room buf → Refuses m 0 0 (take a.end buf) f → LookRefuses buf a f
    badtag : {k : ℕ} {l : List Record} {t : List (TableRow V)} → reach a ≤ room buf → a.draft ≡ Some k → take a.end buf ≡ written l → AllWhole m l t → (GoodTag (take 6 (drop a.end buf)) → ⊥) → LookRefuses buf a (fault BadTag a.end (length l) 0)
    draft : {k : ℕ} {l : List Record} {t : List (TableRow V)} {f : Fault} → reach a ≤ room buf → a.draft ≡ Some k → take a.end buf ≡ written l → AllWhole m l t → GoodTag (take 6 (drop a.end buf)) → m.knows (take 6 (drop a.end buf)) ≡ true → Fails m true (length l) (take 6 (drop a.end buf)) (a.end + 11) [] (take k (drop 11 (drop a.end buf))) 0 f → LookRefuses buf a f
