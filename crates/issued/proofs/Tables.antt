-- What holds of each row of the table, found by looking at all 64.
use Rattle.std.proofs.Common.{◌≡◌, ℕ, zero, suc, ◌-◌, ◌<◌, ◌≤◌, Bool, true, false, cond, ◌&&◌, eqb, ltb, List, [], ◌∷◌, get_or, take, drop, refl, ap, ◌∙◌, arith, eqb-true, Bor}
use borrow.Author.Tests.{eqb-false}
use Rattle.std.proofs.lemmas.Bool.Decides.{nat_tests}
use Rattle.rows.specs.Fair.{fair}
use Rattle.issued.specs.Published.{Field, aimidb, stdidc, acftb, published}
use Rattle.issued.specs.Meant.{none, field_at, row_at, rows_in, end_of, first_of, past_of, fields_in, tag_at}
use Rattle.issued.specs.Widths.{names, texts}
use Rattle.issued.specs.declared.tag.Tag.{Tag}
use Rattle.issued.specs.declared.tag.Tag.TheVariants as tags

abbrev every : (ℕ → Bool) → ℕ → Bool
every f zero = true
every f (suc n) = f n && every f n

and_parts : (x y : Bool) → (x && y) ≡ true → (x ≡ true) × (y ≡ true)
and_parts true y e = (refl, e)
and_parts false y e = let z : ◌≡◌ {A = ℕ} 0 1 = cc in let bad : ⊥ = omega arith in elim bad [ ]

each : (f : ℕ → Bool) (n : ℕ) → every f n ≡ true → (i : ℕ) → i < n → f i ≡ true
each f zero e i l = let bad : ⊥ = omega arith in elim bad [ ]
each f (suc n) e i l = last_or (eqb i n) refl (λ k. each f n p.1 i k)
  where
    p : (f n ≡ true) × (every f n ≡ true)
    p = and_parts (f n) (every f n) e

    last_or : (b : Bool) → eqb i n ≡ b → (i < n → f i ≡ true) → f i ≡ true
    last_or true h earlier = let same : i ≡ n = eqb-true i n h in ap f same ∙ p.0
    last_or false h earlier = let other : i ≡ n → ⊥ = eqb-false i n h in earlier (omega arith)

pub row_fair : (i : ℕ) → i < 64 → fair (row_at i) ≡ true
unfolding aimidb stdidc acftb
row_fair i l = each (λ k. fair (row_at k)) 64 refl i l

rows_at : (fs : List Field) (i : ℕ) → get_or (rows_in fs) i none.row ≡ (get_or fs i none).row
rows_at [] i = refl
rows_at (f ∷ fs) zero = refl
rows_at (f ∷ fs) (suc i) = rows_at fs i

pub row_in_table : (i : ℕ) → get_or (rows_in published) i none.row ≡ row_at i
row_in_table i = rows_at published i

-- the name numbers go up from each tag's first row
pub number_at : (i : ℕ) → i < 64 → (field_at i).number ≡ i - first_of (tag_at i)
unfolding aimidb stdidc acftb
number_at i l = eqb-true (field_at i).number (i - first_of (tag_at i)) (each (λ k. eqb (field_at k).number (k - first_of (tag_at k))) 64 refl i l)

pub begun : (i : ℕ) → first_of (tag_at i) ≤ i
begun i = go (ltb i 18) (ltb i 36) refl refl
  where
    go : (a b : Bool) → ltb i 18 ≡ a → ltb i 36 ≡ b → first_of (cond a tags.Aimidb (cond b tags.Stdidc tags.Acftb)) ≤ i
    go true b x y = omega arith
    go false true x y = grind (arith, nat_tests)
    go false false x y = grind (arith, nat_tests)

pub ended : (i : ℕ) → past_of (tag_at i) ≡ end_of i
ended i = go (ltb i 18) (ltb i 36)
  where
    go : (a b : Bool) → past_of (cond a tags.Aimidb (cond b tags.Stdidc tags.Acftb)) ≡ cond a 18 (cond b 36 64)
    go true b = refl
    go false true = refl
    go false false = refl

-- a tag's rows and names stand from its first row on
pub rows_of_tag : (t : Tag) → take (past_of t - first_of t) (drop (first_of t) (rows_in published)) ≡ rows_in (fields_in t)
unfolding aimidb stdidc acftb
rows_of_tag tags.Aimidb = refl
rows_of_tag tags.Stdidc = refl
rows_of_tag tags.Acftb = refl

names_of_tag : (t : Tag) → take (past_of t - first_of t) (drop (first_of t) (names published)) ≡ names (fields_in t)
unfolding aimidb stdidc acftb
names_of_tag tags.Aimidb = refl
names_of_tag tags.Stdidc = refl
names_of_tag tags.Acftb = refl

-- what lent texts hold, of a part of them
texts_mid : (a k : ℕ) (ts : List (Bor (List ℕ))) → texts (take k (drop a ts)) ≡ take k (drop a (texts ts))
texts_mid zero zero ts = refl
texts_mid zero (suc k) [] = refl
texts_mid zero (suc k) (t ∷ ts) = ap (λ x. t.now ∷ x) (texts_mid zero k ts)
texts_mid (suc a) zero [] = refl
texts_mid (suc a) (suc k) [] = refl
texts_mid (suc a) k (t ∷ ts) = texts_mid a k ts

pub texts_of_tag : (t : Tag) (ts : List (Bor (List ℕ))) → texts ts ≡ names published → texts (take (past_of t - first_of t) (drop (first_of t) ts)) ≡ names (fields_in t)
texts_of_tag t ts e = texts_mid (first_of t) (past_of t - first_of t) ts ∙ ap (λ xs. take (past_of t - first_of t) (drop (first_of t) xs)) e ∙ names_of_tag t
