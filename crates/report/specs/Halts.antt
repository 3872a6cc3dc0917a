-- What the parts of a listing come to.
use Rattle.std.specs.Prelude.{◌≡◌, ℕ, List, ◌++◌, Ok, Err, vec_items, string_bytes, Result, Vec, String}
use Rattle.std.specs.declared.alloc.Global.{Global}
use Rattle.std.specs.List.{AllByRecursion}
use Rattle.area.specs.declared.answer.Entry.{Entry}
use Rattle.area.specs.Listing.{all_entries}
use Rattle.book.specs.Meaning.{Meaning}
use Rattle.lines.specs.Lines.{refusal_line}
use Rattle.model.specs.declared.area.Area.{Area}
use Rattle.model.specs.Ledgers.{Ledger, Stands}
use Rattle.model.specs.Records.{Record, TableRow}
use Rattle.report.specs.declared.halt.Halt.{Halt}
use Rattle.report.specs.declared.halt.Halt.TheVariants.{Refused, NoMemory}
use Rattle.report.specs.Entries.{Laid, Opens, entries_lines}
use Rattle.report.specs.Listings.{Listing, ended}

-- the text is the listing, or the refusal's line is; nothing is said where memory fails
abbrev pub Tabled : {V : Type 0} → Meaning V → List ℕ → Result (String Global) Halt → Type 0
Tabled m bytes (Ok s) = Listing m bytes (string_bytes s)
Tabled m bytes (Err (Refused f)) = Listing m bytes (ended (refusal_line f))
Tabled m bytes (Err NoMemory) = Unit {0}

-- memory fails, and nothing is refused
abbrev pub Starved : Halt → Type 0
Starved (Refused f) = ⊥
Starved NoMemory = Unit {0}

-- what is made is as P says, unless memory fails
abbrev pub Unrefused : {X : Type 0} → Result X Halt → (X → Type 0) → Type 0
Unrefused (Ok x) P = P x
Unrefused (Err h) P = Starved h

-- the fields of all records of an area that stands for a ledger
abbrev pub Enlisted : {V : Type 0} → Meaning V → List ℕ → Area → Result (Vec Entry Global) Halt → Type 0
Enlisted {V} m bytes a r = (L : Ledger) (t : List (TableRow V)) → Stands m bytes a L t → Unrefused r (λ v. vec_items v ≡ all_entries L t)

-- a text with these lines behind it
abbrev pub Grown : List ℕ → List ℕ → List ℕ → Result (Unit {0}) Halt → Type 0
Grown before lines after r = Unrefused r (λ _. after ≡ before ++ lines)

-- the lines of all entries
abbrev pub Printed : List ℕ → List Entry → Result (String Global) Halt → Type 0
Printed bytes es r = (l : List Record) → Laid bytes l → AllByRecursion (Opens l) es → Unrefused r (λ s. string_bytes s ≡ entries_lines l es)
