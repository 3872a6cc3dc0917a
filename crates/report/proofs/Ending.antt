-- What the listing comes to in the end.
use Rattle.std.proofs.Common.{◌≡◌, ℕ, ◌<◌, ◌≤◌, List, ◌++◌, length, Err, sym, ap, ◌∙◌, subst, ap₂}
use Rattle.area.specs.declared.answer.Entry.{Entry}
use Rattle.area.specs.Listing.{all_entries}
use Rattle.area.specs.Reading.{opened}
use Rattle.area.proofs.Telling.{all_sound}
use Rattle.book.specs.Meaning.{Meaning, Laws}
use Rattle.lines.specs.Lines.{end_line, refusal_line, with_line}
use Rattle.model.specs.declared.area.Area.{Area}
use Rattle.model.specs.Ledgers.{Ledger, Stands}
use Rattle.model.specs.Records.{Record, TableRow}
use Rattle.refusal.specs.declared.fault.Cause.TheVariants.{TooLong}
use Rattle.refusal.specs.declared.fault.Fault.{Fault}
use Rattle.refusal.specs.Faults.{fault}
use Rattle.std.specs.List.{AllByRecursion}
use Rattle.report.specs.declared.halt.Halt.{Halt}
use Rattle.report.specs.declared.halt.Halt.TheVariants.{Refused, NoMemory}
use Rattle.report.specs.Entries.{Laid, Placed, Opens, entries_lines}
use Rattle.report.specs.Halts.{Starved, Tabled}
use Rattle.report.specs.Listings.{Listing, most, ended, all_lines}
use Rattle.report.specs.Listings.Listing.{long, table}
use Rattle.report.proofs.Fielded.{all_stand, all_listed}
use Rattle.report.proofs.Standing.{reads}
use Rattle.report.proofs.Steps.{lined}

-- want of memory alone halts the listing of an area that stands for a ledger
pub halted : {V : Type 0} (m : Meaning V) (bytes : List ℕ) (h : Halt) → Starved h → Tabled m bytes (Err h)
halted m bytes (Refused f) bad = elim bad [ ]
halted m bytes NoMemory x = tt

-- what the list of all fields says of the bytes
pub record Ready (bytes : List ℕ) (l : List Record) (es : List Entry) : Type 0 where
  pub laid : Laid bytes l
  pub placed : AllByRecursion (Placed bytes) es
  pub opens : AllByRecursion (Opens l) es
  pub lines : entries_lines l es ≡ all_lines 0 0 l

pub ready : {V : Type 0} {m : Meaning V} (laws : Laws m) (bytes : List ℕ) (a : Area) {L : Ledger} {t : List (TableRow V)} (es : List Entry) → length bytes ≤ most → a ≡ opened (length bytes) → Stands m bytes a L t → es ≡ all_entries L t → Ready bytes L.records es
ready {m = m} laws bytes a {L} {t} es h e s i =
    let r = reads bytes h (subst (λ x. Stands m bytes x L t) e s) in
    let k = all_stand bytes r.bytes r.whole in
    record {
      laid = (all_sound laws r.whole, r.bytes);
      placed = subst (AllByRecursion (Placed bytes)) (sym i) k.0;
      opens = subst (AllByRecursion (Opens L.records)) (sym i) k.1;
      lines = ap (entries_lines L.records) i ∙ all_listed laws r.whole;
    }

module _ {V : Type 0} {m : Meaning V} (bytes : List ℕ) where
  pub too_long : (f : Fault) → f ≡ fault TooLong 0 0 0 → most < length bytes → Listing m bytes (ended (refusal_line f))
  too_long f e h = subst (λ x. Listing m bytes (ended (refusal_line x))) (sym e) (long h)

  pub whole : (a : Area) {L : Ledger} {t : List (TableRow V)} (text before line : List ℕ) (n : ℕ) → length bytes ≤ most → a ≡ opened (length bytes) → Stands m bytes a L t → before ≡ all_lines 0 0 L.records → n ≡ length L.records → line ≡ end_line n (length bytes) → text ≡ with_line before line → Listing m bytes text
  whole a {L} {t} text before line n h e s b k i d =
      let last : line ≡ end_line (length L.records) (length bytes) = subst (λ x. line ≡ end_line x (length bytes)) k i in
      let all : text ≡ all_lines 0 0 L.records ++ ended (end_line (length L.records) (length bytes)) = d ∙ lined before line ∙ ap₂ (λ x y. x ++ ended y) b last in
      subst (Listing m bytes) (sym all) (table h (reads bytes h (subst (λ x. Stands m bytes x L t) e s)))
