-- What a mark's row says of the place where it stands.
use Rattle.std.proofs.Common.{◌≡◌, ℕ, suc, ◌+◌, ◌-◌, ◌<◌, ◌≤◌, Bool, true, false, cond, ◌||◌, eqb, List, Some, None, Option, [], ◌∷◌, ◌++◌, length, get_or, take, drop, sym, subst, refl, ap, ◌∙◌, append_assoc, append-nil, add-one, arith, drop-cons, eqb-true}
use borrow.Author.Tests.{eqb-false}
use Rattle.std.proofs.lemmas.List.{take_at, drop_at}
use Rattle.std.proofs.lemmas.Bool.Decides.{nat_tests}
use Rattle.book.specs.Meaning.{field as asking}
use Rattle.book.specs.declared.field.Field.{Field as Asking}
use Rattle.rows.specs.Sensors.{flag}
use Rattle.rows.specs.Slots.{slot}
use Rattle.issued.specs.declared.mark.Mark.{Mark}
use Rattle.issued.specs.declared.row_number.RowNumber.{RowNumber}
use Rattle.issued.specs.declared.tag.Tag.{Tag}
use Rattle.issued.specs.declared.tag.Tag.TheVariants as tags
use Rattle.issued.specs.Published.{Field, aimidb, stdidc, acftb, published}
use Rattle.issued.specs.Meant.{none, field_at, row_at, rows_in, end_of, next_of, ahead, is_aimidb, is_stdidc, is_acftb, fields_of, tag_of, fields_in, first_of, after, asked, read_at, issued, Stands}

take_next : (n : ℕ) (fs : List Field) (i : ℕ) → i < length fs → take (suc n) (drop i fs) ≡ get_or fs i none ∷ take n (drop (suc i) fs)
take_next n fs i l = ap (take (suc n)) (drop-cons fs i none l)

rows : length published ≡ 64
unfolding aimidb stdidc acftb
rows = refl

inside : (i : ℕ) → i < 64 → i < end_of i
inside i l = grind (arith, nat_tests)

same_end : (i : ℕ) → i < 64 → (i + 1 ≡ end_of i → ⊥) → end_of (i + 1) ≡ end_of i
same_end i l e = grind (arith, nat_tests)

-- the fields from row i on: row i's and those from the row after it on
pub opened : (i : ℕ) → i < 64 → ahead i ≡ field_at i ∷ ahead (next_of i)
opened i l = whole ∙ ap (λ fs. field_at i ∷ fs) (rest (eqb (i + 1) (end_of i)) refl)
  where
    more : end_of i - i ≡ suc (end_of i - (i + 1))
    more = omega (arith, inside i l)

    whole : ahead i ≡ field_at i ∷ take (end_of i - (i + 1)) (drop (i + 1) published)
    whole = ap (λ n. take n (drop i published)) more ∙ take_next (end_of i - (i + 1)) published i (rw rows l) ∙ ap (λ k. field_at i ∷ take (end_of i - (i + 1)) (drop k published)) (sym (add-one i))

    rest : (b : Bool) → eqb (i + 1) (end_of i) ≡ b → take (end_of i - (i + 1)) (drop (i + 1) published) ≡ ahead (cond b 64 (i + 1))
    rest true e = let none_left : end_of i - (i + 1) ≡ 0 = omega (arith, eqb-true (i + 1) (end_of i) e) in ap (λ n. take n (drop (i + 1) published)) none_left
    rest false e = ap (λ n. take (n - (i + 1)) (drop (i + 1) published)) (sym (same_end i l (eqb-false (i + 1) (end_of i) e)))

-- at the end of the table nothing is ahead
pub closed : (i : ℕ) → 64 ≤ i → ahead i ≡ []
closed i l = let past : end_of i - i ≡ 0 = grind (arith, nat_tests) in ap (λ n. take n (drop i published)) past

-- a tag that is known, by its name
pub known : (tag : List ℕ) (t : Tag) → tag_of tag ≡ Some t → (issued.knows tag ≡ true) × (fields_of tag ≡ fields_in t)
known tag t = go (is_aimidb tag) (is_stdidc tag) (is_acftb tag)
  where
    go : (a b c : Bool) → cond a (Some tags.Aimidb) (cond b (Some tags.Stdidc) (cond c (Some tags.Acftb) None)) ≡ Some t → ((a || (b || c)) ≡ true) × (cond a aimidb (cond b stdidc (cond c acftb [])) ≡ fields_in t)
    go true b c e = let s : tags.Aimidb ≡ t = cc in (refl, ap fields_in s)
    go false true c e = let s : tags.Stdidc ≡ t = cc in (refl, ap fields_in s)
    go false false true e = let s : tags.Acftb ≡ t = cc in (refl, ap fields_in s)
    go false false false e = let z : ◌≡◌ {A = ℕ} 0 1 = cc in let bad : ⊥ = omega arith in elim bad [ ]

pub unknown : (tag : List ℕ) → tag_of tag ≡ None → (issued.knows tag ≡ false) × (fields_of tag ≡ [])
unknown tag = go (is_aimidb tag) (is_stdidc tag) (is_acftb tag)
  where
    clash : {P : Type 0} {t : Tag} → ◌≡◌ {A = Option Tag} (Some t) None → P
    clash e = let z : ◌≡◌ {A = ℕ} 0 1 = cc in let bad : ⊥ = omega arith in elim bad [ ]

    go : (a b c : Bool) → cond a (Some tags.Aimidb) (cond b (Some tags.Stdidc) (cond c (Some tags.Acftb) None)) ≡ None → ((a || (b || c)) ≡ false) × (cond a aimidb (cond b stdidc (cond c acftb [])) ≡ [])
    go true b c e = clash e
    go false true c e = clash e
    go false false true e = clash e
    go false false false e = (refl, refl)

pub few : (tag : List ℕ) → length (rows_in (fields_of tag)) ≤ 64
unfolding aimidb stdidc acftb
few tag = go (is_aimidb tag) (is_stdidc tag) (is_acftb tag)
  where
    go : (a b c : Bool) → length (rows_in (cond a aimidb (cond b stdidc (cond c acftb [])))) ≤ 64
    go true b c = omega arith
    go false true c = omega arith
    go false false true = omega arith
    go false false false = omega arith

-- a mark at a tag's first row stands at the start of its record
pub begins : (t : Tag) → ahead (first_of t) ≡ fields_in t
unfolding aimidb stdidc acftb
begins tags.Aimidb = refl
begins tags.Stdidc = refl
begins tags.Acftb = refl

pub started : (tag : List ℕ) (t : Tag) → tag_of tag ≡ Some t → Stands tag [] (record { row = first_of t; sar = false })
started tag t e s = ap (λ fs. after fs false s) ((known tag t e).1 ∙ sym (begins t))

step_one : (f : Field) (fs : List Field) (sar : Bool) (s t : List ℕ) → 1 ≤ length s → length s ≡ f.row.width → after (f ∷ fs) sar (s ++ t) ≡ after fs (flag f.row.kind sar s) t
step_one f fs sar [] t one e = let bad : ⊥ = omega arith in elim bad [ ]
step_one f fs sar (x ∷ s) t one e = rw (take_at (x ∷ s) t f.row.width e, drop_at (x ∷ s) t f.row.width e) refl

module _ (tag p : List ℕ) (m : Mark) (h : Stands tag p m) where
  here : after (fields_of tag) false p ≡ after (ahead m.row) m.sar []
  here = ap (after (fields_of tag) false) (sym (append-nil p)) ∙ h []

  pub left_here : m.row < 64 → after (fields_of tag) false p ≡ record { fields = field_at m.row ∷ ahead (next_of m.row); sar = m.sar }
  left_here l = here ∙ ap (λ fs. after fs m.sar []) (opened m.row l)

  pub asks_here : m.row < 64 → asked (after (fields_of tag) false p).fields ≡ Some (asking (field_at m.row).number (row_at m.row).width)
  asks_here l = ap (λ x. asked x.fields) (left_here l)

  pub asks_done : 64 ≤ m.row → asked (after (fields_of tag) false p).fields ≡ None
  asks_done l = ap (λ x. asked x.fields) (here ∙ ap (λ fs. after fs m.sar []) (closed m.row l))

  pub reads_here : m.row < 64 → issued.reads tag p ≡ slot (row_at m.row) m.sar
  reads_here l = ap (λ x. read_at x.fields x.sar) (left_here l)

  pub reads_at : (n : RowNumber) → n.i ≡ m.row → issued.reads tag p ≡ slot (row_at n.i) m.sar
  reads_at n e = reads_here (subst (λ k. k < 64) e n.inside) ∙ ap (λ k. slot (row_at k) m.sar) (sym e)

  pub moved : m.row < 64 → (s : List ℕ) → 1 ≤ length s → length s ≡ (row_at m.row).width → Stands tag (p ++ s) (record { row = next_of m.row; sar = flag (row_at m.row).kind m.sar s })
  moved l s one e t =
      ap (after (fields_of tag) false) (append_assoc p s t)
      ∙ h (s ++ t)
      ∙ ap (λ fs. after fs m.sar (s ++ t)) (opened m.row l)
      ∙ step_one (field_at m.row) (ahead (next_of m.row)) m.sar s t one e

  pub no_done : {P : Type 0} {n w : ℕ} → 64 ≤ m.row → asked (after (fields_of tag) false p).fields ≡ Some (asking n w) → P
  no_done l a = let b = asks_done l in let z : ◌≡◌ {A = ℕ} 0 1 = cc in let bad : ⊥ = omega arith in elim bad [ ]

pub same_width : {x : Option Asking} {n w k u : ℕ} → x ≡ Some (asking n w) → x ≡ Some (asking k u) → w ≡ u
same_width {n = n} {w = w} {k = k} {u = u} p q = let e : asking n w ≡ asking k u = cc in ap (λ f. f.width) e
