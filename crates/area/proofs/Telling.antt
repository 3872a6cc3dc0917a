-- From a look that found a ledger to what the reading calls say of it.
use Rattle.std.proofs.Common.{◌≡◌, ℕ, zero, suc, ◌+◌, ◌-◌, ◌<◌, ◌≤◌, List, [], ◌++◌, map, length, get_or, take, drop, Some, None, sym, refl, ap, ◌∙◌, subst, ap₂, inl, inr, append_assoc, arith, length-append, take-append-drop, take_at, drop_at}
use Rattle.std.proofs.Common.{Err, Option, Result}
use Rattle.std.specs.Option.{ok_or}
use Rattle.book.specs.Meaning.{Meaning, Laws}
use Rattle.refusal.specs.declared.fault.Fault.{Fault}
use Rattle.refusal.specs.declared.fault.Cause.TheVariants.{NoSuch}
use Rattle.refusal.specs.Faults.{fault}
use Rattle.model.specs.declared.area.Area.{Area}
use Rattle.model.specs.declared.seen.Seen.{Seen}
use Rattle.model.specs.Records.{Record, TableRow, TableField, AllWhole, joined, digits5, header, record_of, written}
use Rattle.model.specs.Records.AllWhole.{none as no_rows, more}
use Rattle.model.specs.Ledgers.{Ledger}
use Rattle.model.specs.Looks.{Looked}
use Rattle.model.specs.Rules.{nothing}
use Rattle.model.proofs.Lists.{never}
use Rattle.model.proofs.Apart.{some_data}
use Rattle.model.proofs.Placing.{cut_at}
use Rattle.model.proofs.Whole.{record_length}
use Rattle.area.proofs.Parting.{joined_cut}
use Rattle.walk.specs.declared.header.Header.{Header}
use Rattle.area.specs.declared.part.Part.{Part}
use Rattle.area.specs.Finding.{Sound, Holds, Located, Parted, Lent, names}
use Rattle.area.specs.Reading.{record_rules, field_rules, name_at}

pub lends : {V M : Type 0} {m : Meaning V} {stands : List ℕ → List ℕ → M → Type 0} {buf : List ℕ} {a : Area} {s : Seen M} → Looked m stands buf a s → Lent m buf a (take (a.end - 0) buf)
lends {buf = buf} {a = a} l =
    let z : a.end - 0 ≡ a.end = omega arith in
    let e : take (a.end - 0) buf ≡ take a.end buf = ap (λ i. take i buf) z in
    record { ledger = l.ledger; table = l.table; stood = l.stood; is = e ∙ l.stood.bytes; there = e }

pub all_sound : {V : Type 0} {m : Meaning V} (laws : Laws m) {l : List Record} {t : List (TableRow V)} → AllWhole m l t → Sound l
all_sound laws no_rows = tt
all_sound laws (more w ws) = (w.good, some_data laws w.begun w.full, w.short, all_sound laws ws)

-- record n is whole, and its row has these names
pub record At {V : Type 0} (m : Meaning V) (l : List Record) (t : List (TableRow V)) (n : ℕ) : Type 0 where
  pub fields : List (TableField V)
  pub holds : Holds m (get_or l n nothing).tag (joined (get_or l n nothing).spellings) (get_or l n nothing).spellings fields
  pub named : get_or (map (λ r. names r.fields) t) n [] ≡ names fields

pub at_record : {V : Type 0} {m : Meaning V} {l : List Record} {t : List (TableRow V)} (n : ℕ) → n < length l → AllWhole m l t → At m l t n
at_record n h no_rows = let bad : ⊥ = omega arith in never bad
at_record zero h (more {r = r} w ws) = record { fields = r.fields; holds = record { begun = w.begun; full = w.full; bytes = refl }; named = refl }
at_record (suc n) h (more w ws) = let x = at_record n (omega arith) ws in record { fields = x.fields; holds = x.holds; named = x.named }

pub moved : {V : Type 0} {m : Meaning V} {tag d tag' d' : List ℕ} {ss : List (List ℕ)} {fs : List (TableField V)} → tag ≡ tag' → d ≡ d' → Holds m tag' d' ss fs → Holds m tag d ss fs
moved {m = m} {d = d} {tag' = u} {ss = ss} {fs = fs} p q h = subst (λ x. Holds m x d ss fs) (sym p) (subst (λ x. Holds m u x ss fs) (sym q) h)

-- the refusals: there is no such record, or no such field
pub record_missing : (L : Ledger) (n : ℕ) → length L.records ≤ n → record_rules n L (Some (fault NoSuch 0 0 0))
record_missing L n h = inl (fault NoSuch 0 0 0, (h, refl), refl)

pub record_there : (L : Ledger) (n : ℕ) → n < length L.records → record_rules n L None
record_there L n h = inr (λ f x. let y = x.0 in omega arith, refl)

pub field_missing : (L : Ledger) (n k : ℕ) → length L.records ≤ n → field_rules n k L (Some (fault NoSuch 0 0 0))
field_missing L n k h = inl (fault NoSuch 0 0 0, (h, refl), refl)

pub field_absent : (L : Ledger) (n k : ℕ) → n < length L.records → length (get_or L.records n nothing).spellings ≤ k → field_rules n k L (Some (fault NoSuch 0 0 0))
field_absent L n k h j = inr (λ f x. let y = x.0 in omega arith, inl (fault NoSuch 0 0 0, (j, refl), refl))

pub field_there : (L : Ledger) (n k : ℕ) → n < length L.records → k < length (get_or L.records n nothing).spellings → field_rules n k L None
field_there L n k h j = inr (λ f x. let y = x.0 in omega arith, inr (λ f x. let y = x.0 in omega arith, refl))

-- spelling k of record n stands in the buffer at its place
module _ (buf : List ℕ) (e : ℕ) (l : List Record) (n k : ℕ) (is : take e buf ≡ written l) (h : n < length l) (j : k < length (get_or l n nothing).spellings) (six : length (get_or l n nothing).tag ≡ 6) where
  pub spelling_in : take (length (get_or (get_or l n nothing).spellings k [])) (drop (length (written (take n l)) + 11 + length (joined (take k (get_or l n nothing).spellings))) buf) ≡ get_or (get_or l n nothing).spellings k []
  unfolding record_of
  spelling_in =
      let t = (get_or l n nothing).tag in
      let ss = (get_or l n nothing).spellings in
      let A = written (take n l) in
      let W = written (drop (n + 1) l) in
      let H = header t (length (joined ss)) in
      let p = joined (take k ss) in
      let s = get_or ss k [] in
      let z = joined (drop (k + 1) ss) in
      let flat : (y : List ℕ) → (A ++ ((H ++ (p ++ (s ++ z))) ++ W)) ++ y ≡ (A ++ (H ++ p)) ++ (s ++ (z ++ (W ++ y))) = λ y. simp append_assoc in
      let all : buf ≡ (A ++ (H ++ p)) ++ (s ++ (z ++ (W ++ drop e buf))) =
      sym (take-append-drop e buf) ∙ ap (λ i. i ++ drop e buf) (is ∙ cut_at l n h ∙ ap (λ i. A ++ ((H ++ i) ++ W)) (joined_cut ss k j)) ∙ flat (drop e buf) in
      let len : length (A ++ (H ++ p)) ≡ length A + 11 + length p = let a = length-append A (H ++ p) in let b = length-append H p in let c = length-append t (digits5 (length (joined ss))) in omega arith in
      ap (λ i. take (length s) (drop (length A + 11 + length p) i)) all ∙ ap (take (length s)) (drop_at (A ++ (H ++ p)) (s ++ (z ++ (W ++ drop e buf))) (length A + 11 + length p) len) ∙ take_at s (z ++ (W ++ drop e buf)) (length s) refl

-- a part of the data of a whole record is its spelling
pub part_spelled : (d : List ℕ) (ss : List (List ℕ)) (k start width : ℕ) → d ≡ joined ss → k < length ss → start ≡ length (joined (take k ss)) → width ≡ length (get_or ss k []) → (take (start + width - start) (drop start d) ≡ get_or ss k []) × (start + width ≤ length d)
part_spelled d ss k start width e h p w =
    let c = e ∙ joined_cut ss k h in
    let z : start + width - start ≡ width = omega arith in
    let a = ap length c in
    let b = length-append (joined (take k ss)) (get_or ss k [] ++ joined (drop (k + 1) ss)) in
    let f = length-append (get_or ss k []) (joined (drop (k + 1) ss)) in
    (ap (λ i. take i (drop start d)) (z ∙ w) ∙ ap (take (length (get_or ss k []))) (ap (drop start) c ∙ drop_at (joined (take k ss)) _ start (sym p)) ∙ take_at (get_or ss k []) _ (length (get_or ss k [])) refl, omega arith)

-- field k of record n, as it was found
module _ {V : Type 0} {m : Meaning V} {buf : List ℕ} {a : Area} {bytes : List ℕ} (x : Lent m buf a bytes) (n k place : ℕ) (h : Header) (q : Part) (loc : Located x.ledger.records n place h) (at : At m x.ledger.records x.table n) (p : Parted (get_or x.ledger.records n nothing).spellings (names at.fields) k q) where
  pub field_place : place + 11 + q.start ≡ length (written (take n x.ledger.records)) + 11 + length (joined (take k (get_or x.ledger.records n nothing).spellings))
  field_place = let a = loc.place_is in let b = p.start_is in omega arith

  pub field_name : q.name ≡ name_at x.table n k
  field_name = p.name_is ∙ ap (λ i. get_or i k 0) (sym at.named)

  pub field_bytes : take (q.start + q.width - q.start) (drop q.start h.data.now) ≡ get_or (get_or x.ledger.records n nothing).spellings k []
  field_bytes = (part_spelled h.data.now (get_or x.ledger.records n nothing).spellings k q.start q.width loc.data_is p.there p.start_is p.width_is).0

  pub field_in : length (get_or x.ledger.records n nothing).tag ≡ 6 → (s : List ℕ) → s ≡ get_or (get_or x.ledger.records n nothing).spellings k [] → s ≡ take (length s) (drop (place + 11 + q.start) buf)
  field_in six s e =
      let y = spelling_in buf a.end x.ledger.records n k (sym x.there ∙ x.is) loc.there p.there six in
      e ∙ sym y ∙ ap₂ (λ (i j : ℕ). take i (drop j buf)) (ap length (sym e)) (sym field_place)

-- a record lies inside the bytes of all
pub inside : (l : List Record) (n : ℕ) → n < length l → length (get_or l n nothing).tag ≡ 6 → length (written (take n l)) + (11 + length (joined (get_or l n nothing).spellings)) ≤ length (written l)
inside l n h six =
    let a = ap length (cut_at l n h) in
    let r = record_of (get_or l n nothing).tag (joined (get_or l n nothing).spellings) in
    let b = length-append (written (take n l)) (r ++ written (drop (n + 1) l)) in
    let c = length-append r (written (drop (n + 1) l)) in
    let d = record_length (get_or l n nothing).tag (joined (get_or l n nothing).spellings) six in
    omega arith

-- the refusal of an option that has nothing
pub refused_with : {T : Type 0} (x : Option T) (e f : Fault) → x ≡ None → Err e ≡ ok_or x f → e ≡ f
refused_with {T} x e f z v = let h : ◌≡◌ {A = Result T Fault} (Err e) (Err f) = v ∙ ap (λ y. ok_or y f) z in cc
