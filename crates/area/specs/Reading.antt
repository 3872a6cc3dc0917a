-- What the reading calls answer.
use Rattle.std.specs.Prelude.{◌≡◌, ℕ, ◌≤◌, List, [], ◌∷◌, map, length, take, drop, Some, None, Ok, Err, Option, Result, slice_index, slice_index_or}
use Rattle.book.specs.Meaning.{Meaning}
use Rattle.refusal.specs.declared.fault.Cause.TheVariants.{NoSuch}
use Rattle.refusal.specs.declared.fault.Fault.{Fault}
use Rattle.refusal.specs.Faults.{fault}
use Rattle.model.specs.declared.area.Area.{Area}
use Rattle.model.specs.Records.{TableRow, joined}
use Rattle.model.specs.Ledgers.{Ledger, Stands, LookRefuses}
use Rattle.model.specs.Rules.{Rule, gives, Refusal, nth, begins, field_at}
use Rattle.area.specs.declared.answer.RecordInfo.{RecordInfo}
use Rattle.area.specs.declared.answer.FieldInfo.{FieldInfo}
use Rattle.area.specs.Finding.{names}

-- The answer of a call that only reads. The buffer and the area value stand for no ledger, then it is the refusal of a look at them;
-- or they stand for one, then it is the refusal that the rules give, or what the call gives.
pub data Answers {V T : Type 0} (m : Meaning V) (buf : List ℕ) (a : Area) (rules : Ledger → Option Fault → Type 0) (served : Ledger → List (TableRow V) → T → Type 0) : Result T Fault → Type 0 where
  astray : {f : Fault} → LookRefuses m buf a f → Answers m buf a rules served (Err f)
  refused : {f : Fault} (L : Ledger) (t : List (TableRow V)) → Stands m buf a L t → rules L (Some f) → Answers m buf a rules served (Err f)
  answered : {x : T} (L : Ledger) (t : List (TableRow V)) → Stands m buf a L t → rules L None → served L t x → Answers m buf a rules served (Ok x)

abbrev pub never_refused : Ledger → Option Fault → Type 0
never_refused L o = Refusal [] o

-- the area that takes up the first len bytes, with no draft
abbrev pub opened : ℕ → Area
opened len = record { end = len; draft = None }

abbrev pub Opened : {V : Type 0} → ℕ → Ledger → List (TableRow V) → Area → Type 0
Opened len L t a = a ≡ opened len

abbrev pub Counted : {V : Type 0} → Ledger → List (TableRow V) → ℕ → Type 0
Counted L t n = n ≡ length L.records

-- there is no record n
abbrev pub no_record : Ledger → ℕ → Rule
no_record L n = gives (fault NoSuch 0 0 0) (length L.records ≤ n)

-- record n has no field k
abbrev pub no_field : Ledger → ℕ → ℕ → Rule
no_field L n k = gives (fault NoSuch 0 0 0) (length (nth L n).spellings ≤ k)

abbrev pub record_rules : ℕ → Ledger → Option Fault → Type 0
record_rules n L o = Refusal (no_record L n ∷ []) o

pub record RecordTold {V : Type 0} (n : ℕ) (L : Ledger) (t : List (TableRow V)) (r : RecordInfo) : Type 0 where
  pub place : r.place ≡ begins L n
  pub long : r.length ≡ length (joined (nth L n).spellings)
  pub tag : r.tag ≡ (nth L n).tag
  pub fields : r.fields ≡ length (nth L n).spellings

abbrev pub field_rules : ℕ → ℕ → Ledger → Option Fault → Type 0
field_rules n k L o = Refusal (no_record L n ∷ (no_field L n k ∷ [])) o

-- the name number of field k of record n in the table
abbrev pub name_at : {V : Type 0} → List (TableRow V) → ℕ → ℕ → ℕ
name_at t n k = slice_index (slice_index_or (map (λ r. names r.fields) t) n []) k

-- the bytes handed out are the spelling, and stand in the buffer at the place told
pub record FieldTold {V : Type 0} (buf : List ℕ) (n k : ℕ) (L : Ledger) (t : List (TableRow V)) (r : FieldInfo) : Type 0 where
  pub place : r.place ≡ field_at L n k
  pub name : r.name ≡ name_at t n k
  pub bytes : r.bytes.now ≡ slice_index_or (nth L n).spellings k []
  pub there : r.bytes.now ≡ take (length r.bytes.now) (drop r.place buf)
