-- A list of all fields, as entries.
use Rattle.std.specs.Prelude.{◌≡◌, ℕ, ◌+◌, ◌<◌, List, [], ◌∷◌, ◌++◌, map, length, drop, Ok, Err, Option, Result}
use Rattle.refusal.specs.declared.fault.Cause.TheVariants.{FewEntries}
use Rattle.refusal.specs.declared.fault.Fault.{Fault}
use Rattle.refusal.specs.Faults.{fault}
use Rattle.model.specs.Records.{Record, TableRow, joined}
use Rattle.model.specs.Ledgers.{Ledger}
use Rattle.model.specs.Rules.{gives, Refusal}
use Rattle.area.specs.declared.answer.Entry.{Entry}
use Rattle.area.specs.Finding.{names}

abbrev pub entry : ℕ → ℕ → ℕ → ℕ → ℕ → Entry
entry n k name at w = record { «record» = n; field = k; name = name; place = at; width = w }

-- the fields from k on of record n, with their names and spellings, the first at this place
abbrev pub entries_of : ℕ → ℕ → ℕ → List ℕ → List (List ℕ) → List Entry
entries_of n k at [] ss = []
entries_of n k at (x ∷ ns) [] = []
entries_of n k at (x ∷ ns) (s ∷ ss) = entry n k x at (length s) ∷ entries_of n (k + 1) (at + length s) ns ss

-- the fields of all records, of which the first has number n and begins at this place; ns has the names of each record's fields
abbrev pub listing : ℕ → ℕ → List Record → List (List ℕ) → List Entry
listing at n [] ns = []
listing at n (e ∷ l) [] = []
listing at n (e ∷ l) (x ∷ ns) = entries_of n 0 (at + 11) x e.spellings ++ listing (at + (11 + length (joined e.spellings))) (n + 1) l ns

-- how many fields the records have
abbrev pub field_total : List Record → ℕ
field_total [] = 0
field_total (e ∷ l) = length e.spellings + field_total l

abbrev pub all_entries : {V : Type 0} → Ledger → List (TableRow V) → List Entry
all_entries L t = listing 0 0 L.records (map (λ r. names r.fields) t)

-- too few entries were lent
abbrev pub list_rules : ℕ → Ledger → Option Fault → Type 0
list_rules size L o = Refusal (gives (fault FewEntries 0 0 0) (size < field_total L.records) ∷ []) o

-- the first entries are filled with all fields in order, and the others left
pub record Filled {V : Type 0} (old new : List Entry) (L : Ledger) (t : List (TableRow V)) (count : ℕ) : Type 0 where
  pub counted : count ≡ length (all_entries L t)
  pub filled : new ≡ all_entries L t ++ drop count old

-- a refusal leaves the entries
abbrev pub Kept : List Entry → List Entry → Result ℕ Fault → Type 0
Kept old new (Ok count) = Unit {0}
Kept old new (Err f) = new ≡ old

-- the entries lie one behind another from start to end
abbrev pub Tiling : List Entry → ℕ → ℕ → Type 0
Tiling [] start end = start ≡ end
Tiling (e ∷ es) start end = (e.place ≡ start) × Tiling es (start + e.width) end

-- the entries of all these records are filled, and the others left
pub record FilledAll {V : Type 0} (old new : List Entry) (l : List Record) (t : List (TableRow V)) (count : ℕ) : Type 0 where
  pub counted : count ≡ length (listing 0 0 l (map (λ r. names r.fields) t))
  pub filled : new ≡ listing 0 0 l (map (λ r. names r.fields) t) ++ drop count old
