-- Names that stand in order are found by their numbers.
use Rattle.std.proofs.Common.{◌≡◌, ℕ, zero, suc, ◌<◌, ◌≤◌, List, [], ◌∷◌, length, get_or, Some, None, Option, MatchOption, refl, sym, ap, ◌∙◌, arith, Bor}
use Rattle.std.specs.Option.{option_map}
use Rattle.std.specs.Slice.{IsItemAt}
use Rattle.issued.specs.Published.{Field}
use Rattle.issued.specs.Widths.{named, names, texts}

clash : {P : Type 0} → ◌≡◌ {A = ℕ} 0 1 → P
clash z = let bad : ⊥ = omega arith in elim bad [ ]

name_at : (fs : List Field) (ts : List (Bor (List ℕ))) → texts ts ≡ names fs → (n : ℕ) (d : Bor (List ℕ)) → n < length ts → named fs n ≡ Some (get_or ts n d).now
name_at [] [] e n d l = let bad : ⊥ = omega arith in elim bad [ ]
name_at [] (t ∷ ts) e n d l = clash (cc)
name_at (f ∷ fs) [] e n d l = clash (cc)
name_at (f ∷ fs) (t ∷ ts) e zero d l = let h : f.name ≡ t.now = cc in ap Some h
name_at (f ∷ fs) (t ∷ ts) e (suc n) d l = let h : texts ts ≡ names fs = cc in name_at fs ts h n d (omega arith)

name_past : (fs : List Field) (ts : List (Bor (List ℕ))) → texts ts ≡ names fs → (n : ℕ) → length ts ≤ n → named fs n ≡ None
name_past [] ts e n l = refl
name_past (f ∷ fs) [] e n l = clash (cc)
name_past (f ∷ fs) (t ∷ ts) e zero l = let bad : ⊥ = omega arith in elim bad [ ]
name_past (f ∷ fs) (t ∷ ts) e (suc n) l = let h : texts ts ≡ names fs = cc in name_past fs ts h n (omega arith)

-- what is found at a number is that field's name
pub found : (fs : List Field) (ts : List (Bor (List ℕ))) → texts ts ≡ names fs → (n : ℕ) (r : Option (Bor (Bor (List ℕ)))) (o : Option (Bor (List ℕ))) → IsItemAt ts n r → o ≡ option_map (λ x. x.now) r → MatchOption o (named fs n ≡ None) (λ name. named fs n ≡ Some name.now)
found fs ts e n None o h k = rw k (name_past fs ts e n h.3)
found fs ts e n (Some x) o h k = rw k (name_at fs ts e n x.now h.3.0 ∙ ap (λ y. Some y.now) (sym h.1))
