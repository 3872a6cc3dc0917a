-- The listing of an area, as bytes.
use Rattle.std.specs.Prelude.{ℕ, ◌+◌, ◌<◌, ◌≤◌, List, [], ◌∷◌, ◌++◌, length}
use Rattle.book.specs.Meaning.{Meaning}
use Rattle.lines.specs.Lines.{record_line, field_line, end_line, refusal_line}
use Rattle.model.specs.Records.{Record, TableRow, ReadsAs, joined}
use Rattle.model.specs.Walks.{Refuses}
use Rattle.refusal.specs.declared.fault.Cause.TheVariants.{TooLong}
use Rattle.refusal.specs.declared.fault.Fault.{Fault}
use Rattle.refusal.specs.Faults.{fault}

-- a line with its newline
abbrev pub ended : List ℕ → List ℕ
ended line = line ++ (10 ∷ [])

-- the lines of fields, from field k on, whose bytes begin at a place
abbrev pub field_lines : ℕ → ℕ → List (List ℕ) → List ℕ
field_lines k at [] = []
field_lines k at (s ∷ ss) = ended (field_line k at (length s)) ++ field_lines (k + 1) (at + length s) ss

-- the lines of record n, whose header stands at a place
abbrev pub record_lines : ℕ → ℕ → Record → List ℕ
record_lines n at e = ended (record_line n at (length (joined e.spellings)) e.tag) ++ field_lines 0 (at + 11) e.spellings

-- the lines of records, from record n on
abbrev pub all_lines : ℕ → ℕ → List Record → List ℕ
all_lines n at [] = []
all_lines n at (e ∷ l) = record_lines n at e ++ all_lines (n + 1) (at + (11 + length (joined e.spellings))) l

-- How many bytes a listing takes in.
abbrev pub most : ℕ
most = 65536

-- Which text is the listing of these bytes under a book: the lines of all records and the end line, or the line of the refusal.
pub data Listing {V : Type 0} (m : Meaning V) (bytes : List ℕ) : List ℕ → Type 0 where
  long : most < length bytes → Listing m bytes (ended (refusal_line (fault TooLong 0 0 0)))
  refused : {f : Fault} → length bytes ≤ most → Refuses m 0 0 bytes f → Listing m bytes (ended (refusal_line f))
  table : {l : List Record} {t : List (TableRow V)} → length bytes ≤ most → ReadsAs m bytes l t → Listing m bytes (all_lines 0 0 l ++ ended (end_line (length l) (length bytes)))
