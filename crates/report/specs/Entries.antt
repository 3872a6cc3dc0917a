-- The lines that a list of all fields stands for.
use Rattle.std.specs.Prelude.{◌≡◌, ℕ, zero, suc, ◌+◌, ◌-◌, ◌<◌, ◌≤◌, List, [], ◌∷◌, ◌++◌, length, take, slice_index_or}
use Rattle.area.specs.declared.answer.Entry.{Entry}
use Rattle.area.specs.Finding.{Sound}
use Rattle.lines.specs.Lines.{record_line, field_line}
use Rattle.model.specs.Records.{Record, joined, written}
use Rattle.model.specs.Rules.{nothing}
use Rattle.report.specs.Listings.{ended}

-- the bytes are these records, one behind another
abbrev pub Laid : List ℕ → List Record → Type 0
Laid bytes l = Sound l × (bytes ≡ written l)

-- a field begins within the bytes, behind a header
abbrev pub Placed : List ℕ → Entry → Type 0
Placed bytes e = (11 ≤ e.place) × (e.place ≤ length bytes)

-- field 0 of a record begins where the record's header ends
abbrev pub Opens : List Record → Entry → Type 0
Opens l e = e.field ≡ 0 → (e.«record» < length l) × (e.place ≡ length (written (take e.«record» l)) + 11)

-- the line of the record that a field with this number opens, which only field 0 does
abbrev pub head_line : List Record → Entry → ℕ → List ℕ
head_line l e zero = ended (record_line e.«record» (e.place - 11) (length (joined (slice_index_or l e.«record» nothing).spellings)) (slice_index_or l e.«record» nothing).tag)
head_line l e (suc k) = []

-- the lines of a field, and of the record that it opens
abbrev pub entry_lines : List Record → Entry → List ℕ
entry_lines l e = head_line l e e.field ++ ended (field_line e.field e.place e.width)

abbrev pub entries_lines : List Record → List Entry → List ℕ
entries_lines l [] = []
entries_lines l (e ∷ es) = entry_lines l e ++ entries_lines l es
