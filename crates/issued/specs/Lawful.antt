-- The issued book keeps the laws.
use Rattle.std.specs.Prelude.{◌≡◌, ℕ, ◌≤◌, Bool, true, false, cond, ◌&&◌, ◌||◌, List, [], ◌∷◌, take, drop, Some, None, ◌≢◌, refl}
use Rattle.std.proofs.Common.{ap, arith}
use Rattle.book.specs.Meaning.{Laws, field as asking}
use Rattle.rows.specs.Fair.{fair}
use Rattle.rows.specs.Sensors.{flag}
use Rattle.rows.specs.Slots.{Seen, slot_laws}
use Rattle.issued.specs.Published.{Field, aimidb, stdidc, acftb}
use Rattle.issued.specs.Meant.{is_aimidb, is_stdidc, is_acftb, fields_of, after, asked, read_at, issued}

absurd0 : {P : Type 0} → ◌≡◌ {A = ℕ} 0 1 → P
absurd0 z = let bad : ⊥ = omega arith in elim bad [ ]

and_parts : (x y : Bool) → (x && y) ≡ true → (x ≡ true) × (y ≡ true)
and_parts true y e = (refl, e)
and_parts false y e = absurd0 (cc)

-- every field's width is one that its kind may have
abbrev pub fairs : List Field → Bool
fairs [] = true
fairs (f ∷ fs) = fair f.row && fairs fs

after_fair : (fs : List Field) (sar : Bool) (p : List ℕ) → fairs fs ≡ true → fairs (after fs sar p).fields ≡ true
after_fair [] sar p e = refl
after_fair (f ∷ fs) sar [] e = e
after_fair (f ∷ fs) sar (x ∷ p) e = after_fair fs (flag f.row.kind sar (take f.row.width (x ∷ p))) (drop f.row.width (x ∷ p)) (and_parts (fair f.row) (fairs fs) e).1

fields_fair : (tag : List ℕ) → fairs (fields_of tag) ≡ true
unfolding aimidb stdidc acftb
fields_fair tag = go (is_aimidb tag) (is_stdidc tag) (is_acftb tag)
  where
    go : (a b c : Bool) → fairs (cond a aimidb (cond b stdidc (cond c acftb []))) ≡ true
    go true b c = refl
    go false true c = refl
    go false false true = refl
    go false false false = refl

asked_wide : (fs : List Field) (n w : ℕ) → fairs fs ≡ true → asked fs ≡ Some (asking n w) → (1 ≤ w) × (w ≤ 999)
asked_wide [] n w e h = absurd0 (cc)
asked_wide (f ∷ fs) n w e h =
    let k = slot_laws f.row true (and_parts (fair f.row) (fairs fs) e).0 in
    let e : asking f.number f.row.width ≡ asking n w = cc in
    let same = ap (λ x. x.width) e in
    (omega (arith, k.low), omega (arith, k.high))

first_asked : (a b c : Bool) → (a || (b || c)) ≡ true → asked (after (cond a aimidb (cond b stdidc (cond c acftb []))) false []).fields ≢ None
unfolding aimidb stdidc acftb
first_asked true b c k e = absurd0 (cc)
first_asked false true c k e = absurd0 (cc)
first_asked false false true k e = absurd0 (cc)
first_asked false false false k e = absurd0 (cc)

read_once : (fs : List Field) (sar : Bool) (s t : List ℕ) (v : Seen) → fairs fs ≡ true → read_at fs sar s ≡ Some v → read_at fs sar t ≡ Some v → s ≡ t
read_once [] sar s t v e a b = absurd0 (cc)
read_once (f ∷ fs) sar s t v e a b = (slot_laws f.row sar (and_parts (fair f.row) (fairs fs) e).0).once s t v a b

pub issued_laws : Laws issued
issued_laws = record {
  wide = λ tag p n w e. asked_wide (after (fields_of tag) false p).fields n w (after_fair (fields_of tag) false p (fields_fair tag)) e;
  first = λ tag k e. first_asked (is_aimidb tag) (is_stdidc tag) (is_acftb tag) k e;
  once = λ tag p s t v a b. read_once (after (fields_of tag) false p).fields (after (fields_of tag) false p).sar s t v (after_fair (fields_of tag) false p (fields_fair tag)) a b;
}
