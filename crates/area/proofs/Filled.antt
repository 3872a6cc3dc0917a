-- The entries of all records, record by record.
use Rattle.std.proofs.Common.{◌≡◌, ℕ, zero, suc, ◌+◌, ◌<◌, ◌≤◌, List, [], ◌∷◌, ◌++◌, map, length, get_or, take, drop, sym, refl, ap, ◌∙◌, ap₂, append_assoc, append-nil, add-one, arith, length-append, length-drop, drop-drop, take_at, drop_at}
use Rattle.std.proofs.lemmas.List.{take_all}
use Rattle.book.specs.Meaning.{Meaning}
use Rattle.model.specs.Records.{Record, TableRow, AllWhole, joined, record_of, written}
use Rattle.model.specs.Records.AllWhole.{none as no_rows, more}
use Rattle.model.specs.Rules.{nothing}
use Rattle.model.proofs.Lists.{never}
use Rattle.model.proofs.Whole.{record_length, all_take}
use Rattle.area.specs.declared.answer.Entry.{Entry}
use Rattle.area.specs.Finding.{names}
use Rattle.area.specs.Listing.{entries_of, listing, field_total, FilledAll}
use Rattle.area.proofs.Enlisting.{even, entries_length, total_more}

abbrev pub rows : {V : Type 0} → List (TableRow V) → List (List ℕ)
rows t = map (λ r. names r.fields) t

pub listing_length : {V : Type 0} {m : Meaning V} (a k : ℕ) {l : List Record} {t : List (TableRow V)} → AllWhole m l t → length (listing a k l (rows t)) ≡ field_total l
listing_length a k no_rows = refl
listing_length a k (more {e = e} {r = r} {l = l} {t = t} w ws) =
    let h = listing_length (a + (11 + length (joined e.spellings))) (k + 1) ws in
    let i = entries_length k 0 (a + 11) (names r.fields) e.spellings (even w.begun) in
    let j = length-append (entries_of k 0 (a + 11) (names r.fields) e.spellings) (listing (a + (11 + length (joined e.spellings))) (k + 1) l (rows t)) in
    omega arith

pub listing_more : {V : Type 0} {m : Meaning V} (a k n : ℕ) {l : List Record} {t : List (TableRow V)} → AllWhole m l t → n < length l → listing a k (take (suc n) l) (rows (take (suc n) t)) ≡ listing a k (take n l) (rows (take n t)) ++ entries_of (k + n) 0 (a + length (written (take n l)) + 11) (get_or (rows t) n []) (get_or l n nothing).spellings
listing_more a k n no_rows h = let bad : ⊥ = omega arith in never bad
listing_more a k zero (more {e = e} {r = r} w ws) h =
    let x : k ≡ k + 0 = omega arith in
    let y : a + 11 ≡ a + 0 + 11 = omega arith in
    append-nil (entries_of k 0 (a + 11) (names r.fields) e.spellings) ∙ ap₂ (λ (i j : ℕ). entries_of i 0 j (names r.fields) e.spellings) x y
listing_more a k (suc n) (more {e = e} {r = r} {l = l} {t = t} w ws) h =
    let d = joined e.spellings in
    let here = entries_of k 0 (a + 11) (names r.fields) e.spellings in
    let ih = listing_more (a + (11 + length d)) (k + 1) n ws (omega arith) in
    let x : k + 1 + n ≡ k + suc n = omega arith in
    let y : a + (11 + length d) + length (written (take n l)) + 11 ≡ a + length (record_of e.tag d ++ written (take n l)) + 11 = let p = length-append (record_of e.tag d) (written (take n l)) in let q = record_length e.tag d w.good.six in omega arith in
    ap (λ i. here ++ i) (ih ∙ ap₂ (λ (i j : ℕ). listing (a + (11 + length d)) (k + 1) (take n l) (rows (take n t)) ++ entries_of i 0 j (get_or (rows t) n []) (get_or l n nothing).spellings) x y) ∙ sym (append_assoc here _ _)

pub total_take : (l : List Record) (n : ℕ) → field_total (take n l) ≤ field_total l
total_take [] zero = omega arith
total_take [] (suc n) = omega arith
total_take (e ∷ l) zero = omega arith
total_take (e ∷ l) (suc n) = let h = total_take l n in omega arith

-- the first n records' entries are filled
pub record Sofar {V : Type 0} (old now : List Entry) (l : List Record) (t : List (TableRow V)) (n filled : ℕ) : Type 0 where
  pub counted : filled ≡ length (listing 0 0 (take n l) (rows (take n t)))
  pub is : now ≡ listing 0 0 (take n l) (rows (take n t)) ++ drop filled old

module _ {V : Type 0} {m : Meaning V} {old now : List Entry} {l : List Record} {t : List (TableRow V)} {n filled : ℕ} (w : AllWhole m l t) (s : Sofar old now l t n filled) where
  counts : filled ≡ field_total (take n l)
  counts = s.counted ∙ listing_length 0 0 (all_take n w)

  pub room : n < length l → field_total l ≤ length old → filled + length (get_or l n nothing).spellings ≤ length now
  room h f =
      let c = counts in
      let a = total_more l n h in
      let b = total_take l (n + 1) in
      let k = s.counted in
      let z = ap length s.is in
      let y = length-append (listing 0 0 (take n l) (rows (take n t))) (drop filled old) in
      let x = length-drop filled old in
      omega arith

  module _ (h : n < length l) (f : field_total l ≤ length old) (new es : List Entry) (e : es ≡ entries_of n 0 (length (written (take n l)) + 11) (get_or (rows t) n []) (get_or l n nothing).spellings) (k : ℕ) (le : length es ≡ k) (put : new ≡ take filled now ++ (es ++ drop (filled + k) now)) where
    D : List Entry
    D = listing 0 0 (take n l) (rows (take n t))

    front : take filled now ≡ D
    unfolding D
    front = ap (take filled) s.is ∙ take_at (listing 0 0 (take n l) (rows (take n t))) (drop filled old) filled (sym s.counted)

    back : drop (filled + k) now ≡ drop (filled + k) old
    back = sym (drop-drop k filled now) ∙ ap (drop k) (ap (drop filled) s.is ∙ drop_at (listing 0 0 (take n l) (rows (take n t))) (drop filled old) filled (sym s.counted)) ∙ drop-drop k filled old

    DMore : listing 0 0 (take (n + 1) l) (rows (take (n + 1) t)) ≡ listing 0 0 (take n l) (rows (take n t)) ++ es
    DMore =
        let x : 0 + n ≡ n = omega arith in
        let y : 0 + length (written (take n l)) + 11 ≡ length (written (take n l)) + 11 = omega arith in
        let z : n + 1 ≡ suc n = add-one n in
        ap (λ i. listing 0 0 (take i l) (rows (take i t))) z ∙ listing_more 0 0 n w h ∙ ap (λ i. listing 0 0 (take n l) (rows (take n t)) ++ i) (ap₂ (λ (i j : ℕ). entries_of i 0 j (get_or (rows t) n []) (get_or l n nothing).spellings) x y ∙ sym e)

    is_new : new ≡ listing 0 0 (take (n + 1) l) (rows (take (n + 1) t)) ++ drop (filled + k) old
    unfolding D
    is_new = put ∙ ap₂ (λ (i j : List Entry). i ++ (es ++ j)) front back ∙ sym (append_assoc (listing 0 0 (take n l) (rows (take n t))) es (drop (filled + k) old)) ∙ ap (λ i. i ++ drop (filled + k) old) (sym DMore)

    pub sofar_more : Sofar old new l t (n + 1) (filled + k)
    sofar_more = record {
      counted = let a = ap length DMore in let b = length-append (listing 0 0 (take n l) (rows (take n t))) es in let c = s.counted in omega arith;
      is = is_new;
    }

    -- the entries just filled
    pub just_filled : take k (drop filled new) ≡ es
    just_filled =
        let c = s.counted in
        let x : new ≡ listing 0 0 (take n l) (rows (take n t)) ++ (es ++ drop (filled + k) now) = put ∙ ap (λ i. i ++ (es ++ drop (filled + k) now)) (ap (take filled) s.is ∙ take_at (listing 0 0 (take n l) (rows (take n t))) (drop filled old) filled (sym s.counted)) in
        ap (λ i. take k (drop filled i)) x ∙ ap (take k) (drop_at (listing 0 0 (take n l) (rows (take n t))) (es ++ drop (filled + k) now) filled (sym c)) ∙ take_at es (drop (filled + k) now) k le

  pub sofar_all : length l ≤ n → length t ≤ n → FilledAll old now l t filled
  sofar_all h i =
      let a = take_all n l h in
      let b = take_all n t i in
      record {
        counted = s.counted ∙ ap₂ (λ (x : List Record) (y : List (TableRow V)). length (listing 0 0 x (rows y))) a b;
        filled = s.is ∙ ap₂ (λ (x : List Record) (y : List (TableRow V)). listing 0 0 x (rows y) ++ drop filled old) a b;
      }

pub all_even : {V : Type 0} {m : Meaning V} {l : List Record} {t : List (TableRow V)} → AllWhole m l t → length t ≡ length l
all_even no_rows = refl
all_even (more w ws) = ap suc (all_even ws)
