-- Which record and field, or header, holds a byte.
use Rattle.std.specs.Prelude.{◌≡◌, ℕ, ◌+◌, ◌<◌, ◌≤◌, Bool, true, false, List, [], ◌∷◌, length, take, Some, None, Option, slice_index_or}
use Rattle.refusal.specs.declared.fault.Cause.TheVariants.{NoSuch}
use Rattle.refusal.specs.declared.fault.Fault.{Fault}
use Rattle.refusal.specs.Faults.{fault}
use Rattle.model.specs.Records.{Record, TableRow, joined, written}
use Rattle.model.specs.Ledgers.{Ledger}
use Rattle.model.specs.Rules.{gives, Refusal, nth, begins, field_at}
use Rattle.area.specs.declared.records.Spot.{Spot}
use Rattle.area.specs.Finding.{Located}

-- byte p lies in the header or the data of the record
abbrev pub RecordHeld : List Record → ℕ → Option Spot → Type 0
RecordHeld l p None = length (written l) ≤ p
RecordHeld l p (Some x) = Located l x.number x.place x.head × (x.place ≤ p) × (p < x.place + (11 + length x.head.data.now))

-- byte p of the data lies in spelling k
abbrev pub FieldHeld : List (List ℕ) → ℕ → Option ℕ → Type 0
FieldHeld ss p None = length (joined ss) ≤ p
FieldHeld ss p (Some k) = (k < length ss) × (length (joined (take k ss)) ≤ p) × (p < length (joined (take k ss)) + length (slice_index_or ss k []))

-- the byte lies behind the last finished record
abbrev pub which_rules : ℕ → Ledger → Option Fault → Type 0
which_rules p L o = Refusal (gives (fault NoSuch 0 0 0) (length (written L.records) ≤ p) ∷ []) o

-- byte p lies in the header of record r, or in its field k
abbrev pub Lying : Ledger → ℕ → ℕ → ℕ → Bool → Type 0
Lying L p r k true = (k ≡ 0) × (begins L r ≤ p) × (p < begins L r + 11)
Lying L p r k false = (k < length (nth L r).spellings) × (field_at L r k ≤ p) × (p < field_at L r k + length (slice_index_or (nth L r).spellings k []))

abbrev pub WhichTold : {V : Type 0} → ℕ → Ledger → List (TableRow V) → ℕ × ℕ × Bool → Type 0
WhichTold p L t x = (x.0 < length L.records) × Lying L p x.0 x.1 x.2
