-- What the looks at bytes find.
use Rattle.std.specs.Prelude.{◌≡◌, ℕ, ◌+◌, Bool, true, false, List, [], ◌++◌, length, take, drop, Some, None, Ok, Err, Option, Result}
use Rattle.book.specs.Meaning.{Meaning}
use Rattle.refusal.specs.declared.fault.Fault.{Fault}
use Rattle.refusal.specs.declared.fault.Cause.TheVariants.{BadTag}
use Rattle.model.specs.declared.area.Area.{Area}
use Rattle.model.specs.declared.seen.Read.{Read}
use Rattle.model.specs.declared.seen.Draft.{Draft}
use Rattle.model.specs.declared.seen.Seen.{Seen}
use Rattle.refusal.specs.Faults.{fault}
use Rattle.model.specs.Ledgers.{Ledger, Stands, LookRefuses, Drafts}
use Rattle.model.specs.Records.{Record, TableField, TableRow, GoodTag, Fields, Whole, AllWhole, joined, record_of, written}
use Rattle.model.specs.Walks.{Fails, Refuses}

-- a test that says whether P holds
abbrev pub Tells : Bool → Type 0 → Type 0
Tells true P = P
Tells false P = P → ⊥

-- the data d is fields under this tag, and the mark stands behind them
pub record Fielded {V M : Type 0} (m : Meaning V) (stands : List ℕ → List ℕ → M → Type 0) (draft : Bool) (tag d : List ℕ) (r : Read M) : Type 0 where
  pub known : m.knows tag ≡ true
  pub spellings : List (List ℕ)
  pub fields : List (TableField V)
  pub are : Fields m tag [] spellings fields
  pub bytes : joined spellings ≡ d
  pub count : length spellings ≡ r.count
  pub mark : stands tag d r.mark
  pub done : draft ≡ false → m.asks tag d ≡ None

-- what reading the data of record n comes to: nothing to read under an unknown tag
abbrev pub Fieldeds : {V M : Type 0} → Meaning V → (List ℕ → List ℕ → M → Type 0) → Bool → ℕ → List ℕ → ℕ → List ℕ → Result (Option (Read M)) Fault → Type 0
Fieldeds m stands draft n tag base d (Ok None) = m.knows tag ≡ false
Fieldeds m stands draft n tag base d (Ok (Some r)) = Fielded m stands draft tag d r
Fieldeds m stands draft n tag base d (Err f) = (m.knows tag ≡ true) × Fails m draft n tag base [] d 0 f

-- the bytes begin with a record that the book takes, of this many bytes
pub record Led {V : Type 0} (m : Meaning V) (a : List ℕ) (size : ℕ) : Type 0 where
  pub entry : Record
  pub row : TableRow V
  pub whole : Whole m entry row
  pub is : a ≡ record_of entry.tag (joined entry.spellings) ++ drop size a
  pub long : size ≡ 11 + length (joined entry.spellings)

abbrev pub Leds : {V : Type 0} → Meaning V → ℕ → ℕ → List ℕ → Result ℕ Fault → Type 0
Leds m at n a (Ok size) = Led m a size
Leds m at n a (Err f) = Refuses m at n a f

-- the bytes are this many records that the book takes
pub record Listed {V : Type 0} (m : Meaning V) (a : List ℕ) (k : ℕ) : Type 0 where
  pub records : List Record
  pub table : List (TableRow V)
  pub bytes : a ≡ written records
  pub whole : AllWhole m records table
  pub count : length records ≡ k

abbrev pub Listeds : {V : Type 0} → Meaning V → List ℕ → Result ℕ Fault → Type 0
Listeds m a (Ok k) = Listed m a k
Listeds m a (Err f) = Refuses m 0 0 a f

-- under a known tag, a mark behind the fields of the record
abbrev pub MarkedAs : {V M : Type 0} → Meaning V → (List ℕ → List ℕ → M → Type 0) → Record → Option M → Type 0
MarkedAs m stands e None = m.knows e.tag ≡ false
MarkedAs m stands e (Some mark) = (m.knows e.tag ≡ true) × stands e.tag (joined e.spellings) mark

-- what is known of a draft, if there is one
abbrev pub OpenAs : {V M : Type 0} → Meaning V → (List ℕ → List ℕ → M → Type 0) → Option Record → Option (Draft M) → Type 0
OpenAs m stands None None = Unit {0}
OpenAs m stands None (Some d) = ⊥
OpenAs m stands (Some e) None = ⊥
OpenAs m stands (Some e) (Some d) = (length e.spellings ≡ d.count) × MarkedAs m stands e d.mark

-- behind the area stands a draft with k bytes of data
pub record Draws {V M : Type 0} (m : Meaning V) (stands : List ℕ → List ℕ → M → Type 0) (tail : List ℕ) (k : ℕ) (d : Draft M) : Type 0 where
  pub entry : Record
  pub drafts : Drafts m tail entry
  pub long : length (joined entry.spellings) ≡ k
  pub opened : OpenAs m stands (Some entry) (Some d)

-- or none, for this reason
pub data Spoilt {V : Type 0} (m : Meaning V) (tail : List ℕ) (k at n : ℕ) : Fault → Type 0 where
  tag : (GoodTag (take 6 tail) → ⊥) → Spoilt m tail k at n (fault BadTag at n 0)
  fields : {f : Fault} → GoodTag (take 6 tail) → m.knows (take 6 tail) ≡ true → Fails m true n (take 6 tail) (at + 11) [] (take k (drop 11 tail)) 0 f → Spoilt m tail k at n f

abbrev pub Drawn : {V M : Type 0} → Meaning V → (List ℕ → List ℕ → M → Type 0) → List ℕ → ℕ → ℕ → ℕ → Result (Draft M) Fault → Type 0
Drawn m stands tail k at n (Ok d) = Draws m stands tail k d
Drawn m stands tail k at n (Err f) = Spoilt m tail k at n f

-- the buffer and the area value stand for a ledger
pub record Looked {V M : Type 0} (m : Meaning V) (stands : List ℕ → List ℕ → M → Type 0) (buf : List ℕ) (a : Area) (s : Seen M) : Type 0 where
  pub ledger : Ledger
  pub table : List (TableRow V)
  pub stood : Stands m buf a ledger table
  pub count : length ledger.records ≡ s.count
  pub opened : OpenAs m stands ledger.draft s.draft

abbrev pub Lookeds : {V M : Type 0} → Meaning V → (List ℕ → List ℕ → M → Type 0) → List ℕ → Area → Result (Seen M) Fault → Type 0
Lookeds m stands buf a (Ok s) = Looked m stands buf a s
Lookeds m stands buf a (Err f) = LookRefuses m buf a f
