-- Plain facts of lists and answers.
use Rattle.std.proofs.Common.{◌≡◌, ℕ, ◌+◌, ◌/◌, ◌%◌, ◌≤◌, Bool, true, false, ◌⊎◌, List, [], ◌∷◌, ◌++◌, length, take, drop, Some, None, Option, sym, refl, ap, ◌∙◌, inl, inr, append_assoc, append-nil, arith, take_at, drop_at}
use Rattle.book.specs.Meaning.{field}
use Rattle.std.proofs.lemmas.Bool.{cases_eq}
use Rattle.book.specs.declared.field.Field.{Field}
use Rattle.model.specs.Records.{joined, digits5}

pub split_same : (s t x y : List ℕ) → length s ≡ length t → s ++ x ≡ t ++ y → (s ≡ t) × (x ≡ y)
split_same s t x y l e = (
  sym (take_at s x (length s) refl) ∙ ap (take (length s)) e ∙ take_at t y (length s) (sym l),
  sym (drop_at s x (length s) refl) ∙ ap (drop (length s)) e ∙ drop_at t y (length s) (sym l),
)

pub clash : {V : Type 0} {x : Option V} {v : V} → x ≡ Some v → x ≡ None → ⊥
clash p q = let z : ◌≡◌ {A = ℕ} 0 1 = cc in omega arith

pub same_width : {x : Option Field} {n w k u : ℕ} → x ≡ Some (field n w) → x ≡ Some (field k u) → w ≡ u
same_width {n = n} {w = w} {k = k} {u = u} p q = let e : field n w ≡ field k u = cc in ap (λ f. f.width) e

pub same_name : {x : Option Field} {n w k u : ℕ} → x ≡ Some (field n w) → x ≡ Some (field k u) → n ≡ k
same_name {n = n} {w = w} {k = k} {u = u} p q = let e : field n w ≡ field k u = cc in ap (λ f. f.name) e

pub both : {b : Bool} → b ≡ true → b ≡ false → ⊥
both p q = let z : ◌≡◌ {A = ℕ} 0 1 = cc in omega arith

pub never : {A : Type 0} → ⊥ → A
never b = elim b [ ]

pub joined_push : (l : List (List ℕ)) (s : List ℕ) → joined (l ++ (s ∷ [])) ≡ joined l ++ s
joined_push [] s = append-nil s
joined_push (x ∷ l) s = ap (λ y. x ++ y) (joined_push l s) ∙ sym (append_assoc x (joined l) s)

pub joined_append : (l k : List (List ℕ)) → joined (l ++ k) ≡ joined l ++ joined k
joined_append [] k = refl
joined_append (x ∷ l) k = ap (λ y. x ++ y) (joined_append l k) ∙ sym (append_assoc x (joined l) (joined k))

pub same_number : (n k : ℕ) → n ≤ 99999 → k ≤ 99999 → digits5 n ≡ digits5 k → n ≡ k
same_number n k h i e =
    let a : 48 + n / 10000 % 10 ≡ 48 + k / 10000 % 10 = cc in
    let b : 48 + n / 1000 % 10 ≡ 48 + k / 1000 % 10 = cc in
    let c : 48 + n / 100 % 10 ≡ 48 + k / 100 % 10 = cc in
    let d : 48 + n / 10 % 10 ≡ 48 + k / 10 % 10 = cc in
    let x : 48 + n % 10 ≡ 48 + k % 10 = cc in
    omega arith

pub same_or : (a b : List ℕ) → (a ≡ b) ⊎ (a ≡ b → ⊥)
same_or [] [] = inl refl
same_or [] (y ∷ b) = inr (λ e. let z : ◌≡◌ {A = ℕ} 0 1 = cc in omega arith)
same_or (x ∷ a) [] = inr (λ e. let z : ◌≡◌ {A = ℕ} 0 1 = cc in omega arith)
same_or (x ∷ a) (y ∷ b) =
    elim (cases_eq x y) [
      | inr h ↦ inr (λ e. h (cc))
      | inl h ↦ elim (same_or a b) [ inl k ↦ inl (cc) | inr k ↦ inr (λ e. k (cc)) ]
    ]
