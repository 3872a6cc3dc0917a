-- Filling entries, field by field and record by record.
use Rattle.std.proofs.Common.{◌≡◌, ℕ, zero, suc, ◌+◌, ◌<◌, ◌≤◌, List, [], ◌∷◌, ◌++◌, length, get_or, take, drop, set, sym, refl, ap, ◌∙◌, subst, ap₂, append_assoc, arith, length-append, length-set, take-append-drop, drop-drop, drop-set-lt}
use Rattle.std.proofs.lemmas.List.{take_more, take_more_set, take_all}
use Rattle.book.specs.Meaning.{Meaning, Laws}
use Rattle.model.specs.Records.{Record, TableField, Fields, Begun, joined}
use Rattle.model.specs.Records.Fields.{none, next}
use Rattle.model.specs.Records.Begun.{known, bare, lump}
use Rattle.model.specs.Rules.{nothing}
use Rattle.model.proofs.Lists.{never}
use Rattle.area.specs.declared.answer.Entry.{Entry}
use Rattle.area.specs.declared.part.Part.{Part}
use Rattle.area.specs.Finding.{Parted, names}
use Rattle.area.specs.Listing.{entry, entries_of, field_total}

abbrev pub nowhere : Entry
nowhere = entry 0 0 0 0 0

-- as many names as spellings
fields_even : {V : Type 0} {m : Meaning V} {tag p : List ℕ} {ss : List (List ℕ)} {fs : List (TableField V)} → Fields m tag p ss fs → length (names fs) ≡ length ss
fields_even none = refl
fields_even (next a r f) = ap suc (fields_even f)

pub even : {V : Type 0} {m : Meaning V} {tag : List ℕ} {ss : List (List ℕ)} {fs : List (TableField V)} → Begun m tag ss fs → length (names fs) ≡ length ss
even (known k f) = fields_even f
even (bare k) = refl
even (lump k h) = refl

pub entries_length : (n k at : ℕ) (ns : List ℕ) (ss : List (List ℕ)) → length ns ≡ length ss → length (entries_of n k at ns ss) ≡ length ss
entries_length n k at [] [] e = refl
entries_length n k at [] (s ∷ ss) e = let bad : ⊥ = omega arith in never bad
entries_length n k at (x ∷ ns) [] e = let bad : ⊥ = omega arith in never bad
entries_length n k at (x ∷ ns) (s ∷ ss) e = ap suc (entries_length n (k + 1) (at + length s) ns ss (omega arith))

-- entry i
pub entries_at : (n k at : ℕ) (ns : List ℕ) (ss : List (List ℕ)) (i : ℕ) (d : Entry) → length ns ≡ length ss → i < length ss → get_or (entries_of n k at ns ss) i d ≡ entry n (k + i) (get_or ns i 0) (at + length (joined (take i ss))) (length (get_or ss i []))
entries_at n k at [] ss i d e h = let bad : ⊥ = omega arith in never bad
entries_at n k at (x ∷ ns) [] i d e h = let bad : ⊥ = omega arith in never bad
entries_at n k at (x ∷ ns) (s ∷ ss) zero d e h =
    let a : k ≡ k + 0 = omega arith in
    let b : at ≡ at + 0 = omega arith in
    ap₂ (λ (i j : ℕ). entry n i x j (length s)) a b
entries_at n k at (x ∷ ns) (s ∷ ss) (suc i) d e h =
    let a : k + 1 + i ≡ k + suc i = omega arith in
    let b : at + length s + length (joined (take i ss)) ≡ at + length (s ++ joined (take i ss)) = let q = length-append s (joined (take i ss)) in omega arith in
    entries_at n (k + 1) (at + length s) ns ss i d (omega arith) (omega arith) ∙ ap₂ (λ (i' j : ℕ). entry n i' (get_or ns i 0) j (length (get_or ss i []))) a b

-- the first i entries from a place on are written, and the others stand
pub record Sofar (old now done : List Entry) (from i : ℕ) : Type 0 where
  pub front : take (from + i) now ≡ take from old ++ take i done
  pub back : drop (from + i) now ≡ drop (from + i) old
  pub long : length now ≡ length old

pub sofar_more : {old now done : List Entry} {from i : ℕ} (x : Entry) → Sofar old now done from i → from + i < length now → i < length done → get_or done i nowhere ≡ x → Sofar old (set now (from + i) x) done from (i + 1)
sofar_more {old} {now} {done} {from} {i} x s h j e =
    let a : from + (i + 1) ≡ from + i + 1 = omega arith in
    record {
      front = ap (λ k. take k (set now (from + i) x)) a ∙ take_more_set now (from + i) x h ∙ ap (λ k. k ++ (x ∷ [])) s.front ∙ append_assoc (take from old) (take i done) (x ∷ [])
          ∙ ap (λ k. take from old ++ k) (ap (λ k. take i done ++ (k ∷ [])) (sym e) ∙ sym (take_more done i nowhere j));
      back = drop-set-lt (from + (i + 1)) now (from + i) x (omega arith)
          ∙ ap (λ k. drop k now) a ∙ sym (drop-drop 1 (from + i) now) ∙ ap (drop 1) s.back ∙ drop-drop 1 (from + i) old ∙ ap (λ k. drop k old) (sym a);
      long = length-set now (from + i) x ∙ s.long;
    }

pub sofar_all : {old now done : List Entry} {from i : ℕ} → Sofar old now done from i → length done ≡ i → now ≡ take from old ++ (done ++ drop (from + i) old)
sofar_all {old} {now} {done} {from} {i} s e =
    sym (take-append-drop (from + i) now) ∙ ap₂ (λ (p q : List Entry). p ++ q) (s.front ∙ ap (λ k. take from old ++ k) (take_all i done (omega arith))) s.back ∙ append_assoc (take from old) done (drop (from + i) old)

-- the next field's entry is written
pub sofar_part : {old now new : List Entry} (n base from i : ℕ) (q : Part) (ns : List ℕ) (ss : List (List ℕ)) → length ns ≡ length ss → Parted ss ns i q → Sofar old now (entries_of n 0 base ns ss) from i → from + length ss ≤ length old → new ≡ set now (from + i) (entry n i q.name (base + q.start) q.width) → Sofar old new (entries_of n 0 base ns ss) from (i + 1)
sofar_part {old} {now} n base from i q ns ss e p s h w =
    let t = p.there in
    let lo = s.long in
    let le = entries_length n 0 base ns ss e in
    let z : 0 + i ≡ i = omega arith in
    let x : get_or (entries_of n 0 base ns ss) i nowhere ≡ entry n i q.name (base + q.start) q.width =
    entries_at n 0 base ns ss i nowhere e t ∙ ap₂ (λ (a b : ℕ). entry n a b (base + length (joined (take i ss))) (length (get_or ss i []))) z (sym p.name_is) ∙ ap₂ (λ (a b : ℕ). entry n i q.name (base + a) b) (sym p.start_is) (sym p.width_is) in
    subst (λ k. Sofar old k (entries_of n 0 base ns ss) from (i + 1)) (sym w) (sofar_more (entry n i q.name (base + q.start) q.width) s (omega arith) (omega arith) x)

pub total_append : (l k : List Record) → field_total (l ++ k) ≡ field_total l + field_total k
total_append [] k = omega arith
total_append (e ∷ l) k = let h = total_append l k in omega arith

pub total_more : (l : List Record) (i : ℕ) → i < length l → field_total (take (i + 1) l) ≡ field_total (take i l) + length (get_or l i nothing).spellings
total_more l i h = let a = ap field_total (take_more l i nothing h) ∙ total_append (take i l) (get_or l i nothing ∷ []) in omega arith

-- no field is empty
fields_few : {V : Type 0} {m : Meaning V} (laws : Laws m) {tag : List ℕ} {p : List ℕ} {ss : List (List ℕ)} {fs : List (TableField V)} → Fields m tag p ss fs → length ss ≤ length (joined ss)
fields_few laws none = omega arith
fields_few laws {tag} {p} (next {s = s} {ss = ss} {n = n} a r f) = let w = (laws.wide tag p n (length s) a).0 in let h = fields_few laws f in let l = length-append s (joined ss) in omega arith

pub few : {V : Type 0} {m : Meaning V} (laws : Laws m) {tag : List ℕ} {ss : List (List ℕ)} {fs : List (TableField V)} → Begun m tag ss fs → length ss ≤ length (joined ss)
few laws (known k f) = fields_few laws f
few laws (bare k) = omega arith
few laws (lump {s = s} k h) = let l = length-append s [] in omega arith
