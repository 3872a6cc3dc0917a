-- Kinds of plain bytes: text, capitals, spaces, a word, one byte of a list.
use Rattle.std.specs.Prelude.{◌≡◌, ℕ, ◌≤◌, Bool, true, cond, not, ◌&&◌, List, [], ◌∷◌, length, Some, None, Option, ◌==◌, slice_index, slice_index_or, refl}
use Rattle.std.specs.List.{list_any}
use Rattle.std.proofs.Common.{sym, ◌∙◌, ap, arith, eqb-true}
use Rattle.std.specs.Str.{bytes_eq}
use Rattle.kind.specs.Kinds.{Laws}
use Rattle.kind.specs.Options.{some_is}
use Rattle.kinds.specs.Bytes.{within, spaces, gate, and_parts, spaces_same}

-- bytes that pass a test read as themselves
abbrev pub echo : (List ℕ → Bool) → List ℕ → Option (List ℕ)
echo test s = cond (test s) (Some s) None

pub echo_laws : {w : ℕ} (test : List ℕ → Bool) → ((s : List ℕ) → test s ≡ true → length s ≡ w) → 1 ≤ w → w ≤ 999 → Laws w (echo test)
echo_laws test long a b = record {
  low = a;
  high = b;
  sized = λ s v e. long s (gate (test s) e).0;
  once = λ s t v e f. some_is (gate (test s) e).1 ∙ sym (some_is (gate (test t) f).1);
}

-- w printable bytes, not all spaces
abbrev pub is_text : ℕ → List ℕ → Bool
is_text w s = (length s == w && within 32 126 s) && not (spaces s)

unfoldable pub text : ℕ → List ℕ → Option (List ℕ)
text w s = echo (is_text w) s

pub text_laws : (w : ℕ) → 1 ≤ w → w ≤ 999 → Laws w (text w)
unfolding text
text_laws w a b = echo_laws (is_text w) (λ s e. eqb-true (length s) w (and_parts (length s == w) (within 32 126 s) (and_parts (length s == w && within 32 126 s) (not (spaces s)) e).0).0) a b

-- w capital letters
abbrev pub is_capitals : ℕ → List ℕ → Bool
is_capitals w s = length s == w && within 65 90 s

unfoldable pub capitals : ℕ → List ℕ → Option (List ℕ)
capitals w s = echo (is_capitals w) s

pub capitals_laws : (w : ℕ) → 1 ≤ w → w ≤ 999 → Laws w (capitals w)
unfolding capitals
capitals_laws w a b = echo_laws (is_capitals w) (λ s e. eqb-true (length s) w (and_parts (length s == w) (within 65 90 s) e).0) a b

-- w spaces say no more than that they stand there
unfoldable pub empty : ℕ → List ℕ → Option (Unit {0})
empty w s = cond (length s == w && spaces s) (Some tt) None

pub empty_is : (w : ℕ) (s : List ℕ) (v : Unit {0}) → empty w s ≡ Some v → (length s ≡ w) × (spaces s ≡ true)
unfolding empty
empty_is w s v e = let p = and_parts (length s == w) (spaces s) (gate (length s == w && spaces s) e).0 in (eqb-true (length s) w p.0, p.1)

pub empty_laws : (w : ℕ) → 1 ≤ w → w ≤ 999 → Laws w (empty w)
empty_laws w a b = record {
  low = a;
  high = b;
  sized = λ s v e. (empty_is w s v e).0;
  once = λ s t v e f.
      let p = empty_is w s v e in
      let q = empty_is w t v f in
      spaces_same s t p.1 q.1 (p.0 ∙ sym q.0);
}

-- one fixed spelling says no more than that it stands there
unfoldable pub word : List ℕ → List ℕ → Option (Unit {0})
word w s = cond (bytes_eq s w) (Some tt) None

pub same_is : (s t : List ℕ) → bytes_eq s t ≡ true → s ≡ t
same_is [] [] e = refl
same_is [] (y ∷ t) e = let z : ◌≡◌ {A = ℕ} 0 1 = cc in let bad : ⊥ = omega arith in elim bad [ ]
same_is (x ∷ s) [] e = let z : ◌≡◌ {A = ℕ} 0 1 = cc in let bad : ⊥ = omega arith in elim bad [ ]
same_is (x ∷ s) (y ∷ t) e =
    let p = and_parts (x == y) (bytes_eq s t) e in
    let a : x ≡ y = eqb-true x y p.0 in
    let b : s ≡ t = same_is s t p.1 in
    cc

pub word_is : (w s : List ℕ) (v : Unit {0}) → word w s ≡ Some v → s ≡ w
unfolding word
word_is w s v e = same_is s w (gate (bytes_eq s w) e).0

pub word_laws : (w : List ℕ) → 1 ≤ length w → length w ≤ 999 → Laws (length w) (word w)
word_laws w a b = record {
  low = a;
  high = b;
  sized = λ s v e. ap length (word_is w s v e);
  once = λ s t v e f. word_is w s v e ∙ sym (word_is w t v f);
}

-- the byte c stands in a list
abbrev pub among : ℕ → List ℕ → Bool
among c bs = list_any (λ b. b == c) bs

-- one byte of a list
unfoldable pub one_of : List ℕ → List ℕ → Option ℕ
one_of bs s = cond (length s == 1 && among (slice_index s 0) bs) (Some (slice_index s 0)) None

single : (s : List ℕ) → length s ≡ 1 → s ≡ slice_index s 0 ∷ []
single [] e = let bad : ⊥ = omega arith in elim bad [ ]
single (c ∷ []) e = refl
single (c ∷ d ∷ s) e = let bad : ⊥ = omega arith in elim bad [ ]

pub one_of_is : (bs s : List ℕ) (v : ℕ) → one_of bs s ≡ Some v → (s ≡ v ∷ []) × (among v bs ≡ true)
unfolding one_of
one_of_is bs s v e =
    let g = gate (length s == 1 && among (slice_index s 0) bs) e in
    let p = and_parts (length s == 1) (among (slice_index s 0) bs) g.0 in
    let h : slice_index_or s 0 0 ≡ v = some_is g.1 in
    (single s (eqb-true (length s) 1 p.0) ∙ rw h refl, rw h at p.1)

pub one_of_from : (bs s : List ℕ) (v : ℕ) → s ≡ v ∷ [] → among v bs ≡ true → one_of bs s ≡ Some v
unfolding one_of
one_of_from bs s v e h = rw (e, h) refl

pub one_of_laws : (bs : List ℕ) → Laws 1 (one_of bs)
one_of_laws bs = record {
  low = omega arith;
  high = omega arith;
  sized = λ s v e. ap length (one_of_is bs s v e).0;
  once = λ s t v e f. (one_of_is bs s v e).0 ∙ sym (one_of_is bs t v f).0;
}
