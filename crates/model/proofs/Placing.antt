-- Finding record n.
use Rattle.std.proofs.Common.{◌≡◌, ℕ, zero, suc, ◌+◌, ◌-◌, ◌<◌, ◌≤◌, List, [], ◌∷◌, ◌++◌, length, get_or, take, drop, sym, ap, ◌∙◌, append_assoc, append-nil, arith, length-append, length-drop, take-append-drop, drop-drop, drop_at}
use Rattle.std.proofs.lemmas.List.{take_more, drop_more}
use Rattle.model.specs.Records.{Record, joined, digits5, record_of, written}
use Rattle.model.specs.Walks.{Says}
use Rattle.model.specs.Rules.{nothing}
use Rattle.model.specs.Places.{Sized}
use Rattle.model.proofs.Lists.{never, same_number}
use Rattle.model.proofs.Whole.{written_append, record_length}

-- records before n, record n, records behind it
pub cut_at : (l : List Record) (n : ℕ) → n < length l → written l ≡ written (take n l) ++ (record_of (get_or l n nothing).tag (joined (get_or l n nothing).spellings) ++ written (drop (n + 1) l))
cut_at l n h =
    let e : take n l ++ (get_or l n nothing ∷ drop (n + 1) l) ≡ l = ap (λ i. take n l ++ i) (sym (drop_more l n nothing h)) ∙ take-append-drop n l in
    ap written (sym e) ∙ written_append (take n l) (get_or l n nothing ∷ drop (n + 1) l)

sized_at : (l : List Record) (n : ℕ) → n < length l → Sized l → (length (get_or l n nothing).tag ≡ 6) × (1 ≤ length (joined (get_or l n nothing).spellings)) × (length (joined (get_or l n nothing).spellings) ≤ 99985)
sized_at [] n h s = let bad : ⊥ = omega arith in never bad
sized_at (e ∷ l) zero h s = (s.0, s.1, s.2)
sized_at (e ∷ l) (suc n) h s = sized_at l n (omega arith) s.3

module _ (bytes : List ℕ) (l : List Record) (i at : ℕ) (s : Sized l) (e : bytes ≡ written l) (h : i < length l) (p : at ≡ length (written (take i l))) where
  d : List ℕ
  d = joined (get_or l i nothing).spellings

  z : List ℕ
  z = written (drop (i + 1) l)

  rest_is : drop at bytes ≡ record_of (get_or l i nothing).tag (joined (get_or l i nothing).spellings) ++ written (drop (i + 1) l)
  rest_is = ap (drop at) (e ∙ cut_at l i h) ∙ drop_at (written (take i l)) _ at (sym p)

  pub left_is : length bytes - at ≡ 11 + length (joined (get_or l i nothing).spellings) + length (written (drop (i + 1) l))
  left_is =
      let a = sized_at l i h s in
      let q = length-drop at bytes in
      let w = ap length rest_is in
      let v = length-append (record_of (get_or l i nothing).tag (joined (get_or l i nothing).spellings)) (written (drop (i + 1) l)) in
      let u = record_length (get_or l i nothing).tag (joined (get_or l i nothing).spellings) a.0 in
      omega arith

  pub says_so : Says (take 5 (drop (at + 6) bytes)) (length (joined (get_or l i nothing).spellings))
  unfolding record_of
  says_so =
      let a = sized_at l i h s in
      let t = (get_or l i nothing).tag in
      let dd = joined (get_or l i nothing).spellings in
      let zz = written (drop (i + 1) l) in
      let flat : drop at bytes ≡ t ++ (digits5 (length dd) ++ (dd ++ zz)) = rest_is ∙ append_assoc (t ++ digits5 (length dd)) dd zz ∙ append_assoc t (digits5 (length dd)) (dd ++ zz) in
      let six : drop (at + 6) bytes ≡ digits5 (length dd) ++ (dd ++ zz) = sym (drop-drop 6 at bytes) ∙ ap (drop 6) flat ∙ drop_at t (digits5 (length dd) ++ (dd ++ zz)) 6 a.0 in
      (ap (take 5) six, a.1, a.2)

  pub next_place : (size : ℕ) → Says (take 5 (drop (at + 6) bytes)) size → at + (11 + size) ≡ length (written (take (i + 1) l))
  next_place size q =
      let a = sized_at l i h s in
      let w = says_so in
      let q2 = q.2 in
      let w2 = w.2 in
      let same : size ≡ length (joined (get_or l i nothing).spellings) = same_number size (length (joined (get_or l i nothing).spellings)) (omega arith) (omega arith) (sym q.0 ∙ w.0) in
      let r = record_of (get_or l i nothing).tag (joined (get_or l i nothing).spellings) in
      let t = ap (λ x. length (written x)) (take_more l i nothing h) ∙ ap length (written_append (take i l) (get_or l i nothing ∷ [])) ∙ length-append (written (take i l)) (r ++ []) in
      let u = record_length (get_or l i nothing).tag (joined (get_or l i nothing).spellings) a.0 in
      let v = ap length (append-nil r) in
      omega arith

pub cut_five : (at : ℕ) → at + 11 - (at + 6) ≡ 5
cut_five at = omega arith

pub cut_short : (bytes : List ℕ) (l : List Record) (i at : ℕ) (s : Sized l) (e : bytes ≡ written l) (h : i < length l) (p : at ≡ length (written (take i l))) (size : ℕ) → Says (take 5 (drop (at + 6) bytes)) size → length bytes - at - 11 < size → 11 ≤ length bytes - at → ⊥
cut_short bytes l i at s e h p size q k j =
    let w = says_so bytes l i at s e h p in
    let v = left_is bytes l i at s e h p in
    let q2 = q.2 in
    let w2 = w.2 in
    let same : size ≡ length (joined (get_or l i nothing).spellings) = same_number size (length (joined (get_or l i nothing).spellings)) (omega arith) (omega arith) (sym q.0 ∙ w.0) in
    omega arith
