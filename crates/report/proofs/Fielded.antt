-- The lines of a list of all fields are those of the records.
use Rattle.std.proofs.Common.{◌≡◌, ℕ, suc, ◌+◌, ◌-◌, ◌<◌, ◌≤◌, List, [], ◌∷◌, ◌++◌, length, get_or, take, sym, refl, ap, ◌∙◌, ap₂, append_assoc, arith, length-append}
use Rattle.std.specs.List.{AllByRecursion}
use Rattle.std.proofs.ByRecursion.{All-append, All-weaker}
use Rattle.area.specs.declared.answer.Entry.{Entry}
use Rattle.area.specs.Finding.{names}
use Rattle.area.specs.Listing.{entry, entries_of, listing, field_total}
use Rattle.area.proofs.Enlisting.{even, few}
use Rattle.area.proofs.Filled.{rows}
use Rattle.book.specs.Meaning.{Meaning, Laws}
use Rattle.lines.specs.Lines.{record_line, field_line}
use Rattle.model.specs.Records.{Record, TableRow, AllWhole, joined, record_of, written}
use Rattle.model.specs.Records.AllWhole.{none, more}
use Rattle.model.specs.Rules.{nothing}
use Rattle.model.proofs.Apart.{some_data}
use Rattle.model.proofs.Lists.{never}
use Rattle.model.proofs.Whole.{record_length}
use Rattle.report.specs.Entries.{Placed, Opens, entry_lines, entries_lines}
use Rattle.report.specs.Listings.{ended, field_lines, all_lines}
use Rattle.report.proofs.Steps.{no_head}

-- the line of a record whose header stands at a place
abbrev record_head : ℕ → ℕ → Record → List ℕ
record_head n at e = ended (record_line n at (length (joined e.spellings)) e.tag)

lines_append : (l : List Record) (xs ys : List Entry) → entries_lines l (xs ++ ys) ≡ entries_lines l xs ++ entries_lines l ys
lines_append l [] ys = refl
lines_append l (x ∷ xs) ys = ap (λ z. entry_lines l x ++ z) (lines_append l xs ys) ∙ sym (append_assoc (entry_lines l x) (entries_lines l xs) (entries_lines l ys))

-- fields that open no record
later_fields : (l : List Record) (n k at : ℕ) (ns : List ℕ) (ss : List (List ℕ)) → length ns ≡ length ss → 0 < k → entries_lines l (entries_of n k at ns ss) ≡ field_lines k at ss
later_fields l n k at [] [] e h = refl
later_fields l n k at [] (s ∷ ss) e h = let bad : ⊥ = omega arith in never bad
later_fields l n k at (x ∷ ns) [] e h = let bad : ⊥ = omega arith in never bad
later_fields l n k at (x ∷ ns) (s ∷ ss) e h =
    ap₂ (λ p q. (p ++ ended (field_line k at (length s))) ++ q) (no_head l (entry n k x at (length s)) k h) (later_fields l n (k + 1) (at + length s) ns ss (omega arith) (omega arith))

-- the fields of a record, of which there is one at least
record_fields : (l : List Record) (n at : ℕ) (ns : List ℕ) (ss : List (List ℕ)) → length ns ≡ length ss → 1 ≤ length ss → entries_lines l (entries_of n 0 (at + 11) ns ss) ≡ record_head n at (get_or l n nothing) ++ field_lines 0 (at + 11) ss
record_fields l n at [] ss e h = let bad : ⊥ = omega arith in never bad
record_fields l n at (x ∷ ns) [] e h = let bad : ⊥ = omega arith in never bad
record_fields l n at (x ∷ ns) (s ∷ ss) e h =
    let back : at + 11 - 11 ≡ at = omega arith in
    let line = ended (field_line 0 (at + 11) (length s)) in
    ap₂ (λ p q. (record_head n p (get_or l n nothing) ++ line) ++ q) back (later_fields l n 1 (at + 11 + length s) ns ss (omega arith) (omega arith)) ∙ append_assoc (record_head n at (get_or l n nothing)) line (field_lines 1 (at + 11 + length s) ss)

some_fields : (ss : List (List ℕ)) → 1 ≤ length (joined ss) → 1 ≤ length ss
some_fields [] h = let bad : ⊥ = omega arith in never bad
some_fields (s ∷ ss) h = omega arith

module _ {V : Type 0} {m : Meaning V} (laws : Laws m) where
  -- the fields of the records k, which are those of l from n on
  all_fields : (l : List Record) (at n : ℕ) {k : List Record} {t : List (TableRow V)} → AllWhole m k t → ((i : ℕ) → i < length k → get_or l (n + i) nothing ≡ get_or k i nothing) → entries_lines l (listing at n k (rows t)) ≡ all_lines n at k
  all_fields l at n none f = refl
  all_fields l at n (more {e = e} {r = r} {l = k} {t = t} w ws) f =
      let place = at + (11 + length (joined e.spellings)) in
      let here = entries_of n 0 (at + 11) (names r.fields) e.spellings in
      let same : get_or l n nothing ≡ e = let z : n ≡ n + 0 = omega arith in ap (λ i. get_or l i nothing) z ∙ f 0 (omega arith) in
      let one = record_fields l n at (names r.fields) e.spellings (even w.begun) (some_fields e.spellings (some_data laws w.begun w.full)) in
      let rest = all_fields l place (n + 1) ws (λ i h. let z : n + 1 + i ≡ n + suc i = omega arith in ap (λ j. get_or l j nothing) z ∙ f (suc i) (omega arith)) in
      lines_append l here (listing place (n + 1) k (rows t)) ∙ ap₂ ◌++◌ (one ∙ ap (λ x. record_head n at x ++ field_lines 0 (at + 11) e.spellings) same) rest

  pub all_listed : {l : List Record} {t : List (TableRow V)} → AllWhole m l t → entries_lines l (listing 0 0 l (rows t)) ≡ all_lines 0 0 l
  all_listed {l} w = all_fields l 0 0 w (λ i h. let z : 0 + i ≡ i = omega arith in ap (λ j. get_or l j nothing) z)

  -- no more fields than bytes
  pub total_few : {l : List Record} {t : List (TableRow V)} → AllWhole m l t → field_total l ≤ length (written l)
  total_few none = omega arith
  total_few (more {e = e} {l = l} w ws) =
      let h = total_few ws in
      let a = few laws w.begun in
      let b = record_length e.tag (joined e.spellings) w.good.six in
      let c = length-append (record_of e.tag (joined e.spellings)) (written l) in
      omega arith

-- where the fields of record n stand
record Lies (n k at end : ℕ) (e : Entry) : Type 0 where
  of : e.«record» ≡ n
  from : k ≤ e.field
  low : at ≤ e.place
  high : e.place ≤ end
  first : e.field ≡ k → e.place ≡ at

fields_lie : (n k at : ℕ) (ns : List ℕ) (ss : List (List ℕ)) → AllByRecursion (Lies n k at (at + length (joined ss))) (entries_of n k at ns ss)
fields_lie n k at [] ss = tt
fields_lie n k at (x ∷ ns) [] = tt
fields_lie n k at (x ∷ ns) (s ∷ ss) =
    let j = length-append s (joined ss) in (
      record { of = refl; from = omega arith; low = omega arith; high = omega arith; first = λ _. refl },
      All-weaker _ _ (λ e h.
          let a = h.from in
          let b = h.low in
          let c = h.high in
          record { of = h.of; from = omega arith; low = omega arith; high = omega arith; first = λ i. let bad : ⊥ = omega arith in never bad }) _ (fields_lie n (k + 1) (at + length s) ns ss),
    )

-- where the fields of all records stand: those of l from record n on, which begins at this place
record Found (l : List Record) (at n : ℕ) (e : Entry) : Type 0 where
  nth : ℕ
  there : nth < length l
  of : e.«record» ≡ n + nth
  low : at + 11 ≤ e.place
  high : e.place ≤ at + length (written l)
  opens : e.field ≡ 0 → e.place ≡ at + length (written (take nth l)) + 11

all_found : {V : Type 0} {m : Meaning V} (at n : ℕ) {l : List Record} {t : List (TableRow V)} → AllWhole m l t → AllByRecursion (Found l at n) (listing at n l (rows t))
all_found at n none = tt
all_found at n (more {e = e} {r = r} {l = l} {t = t} w ws) =
    let d = joined e.spellings in
    let b = record_length e.tag d w.good.six in
    let c = length-append (record_of e.tag d) (written l) in
    All-append _ _ _
    (All-weaker _ _ (λ x h.
    let o = h.of in
    let p = h.low in
    let q = h.high in
    record { nth = 0; there = omega arith; of = omega arith; low = p; high = omega arith; opens = λ i. let f = h.first i in omega arith }) _ (fields_lie n 0 (at + 11) (names r.fields) e.spellings))
    (All-weaker _ _ (λ x h.
    let o = h.of in
    let p = h.low in
    let q = h.high in
    let k = h.there in
    let y = length-append (record_of e.tag d) (written (take h.nth l)) in
    record { nth = suc h.nth; there = omega arith; of = omega arith; low = omega arith; high = omega arith; opens = λ i. let f = h.opens i in omega arith }) _ (all_found (at + (11 + length d)) (n + 1) ws))

-- each entry is placed, and opens its record if it is the first
pub all_stand : {V : Type 0} {m : Meaning V} (bytes : List ℕ) {l : List Record} {t : List (TableRow V)} → bytes ≡ written l → AllWhole m l t → AllByRecursion (Placed bytes) (listing 0 0 l (rows t)) × AllByRecursion (Opens l) (listing 0 0 l (rows t))
all_stand bytes {l} e w =
    let z = ap length e in (
      All-weaker _ _ (λ x h. let p = h.low in let q = h.high in (omega arith, omega arith)) _ (all_found 0 0 w),
      All-weaker _ _ (λ x h i.
          let o = h.of in
          let k = h.there in
          let f = h.opens i in
          let j : h.nth ≡ x.«record» = omega arith in
          let g = ap (λ y. length (written (take y l))) j in
          (omega arith, omega arith)) _ (all_found 0 0 w),
    )
