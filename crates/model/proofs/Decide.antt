-- A tag is good or not; data reads or is refused.
use Rattle.std.proofs.Common.{◌≡◌, ℕ, zero, suc, ◌+◌, ◌<◌, ◌≤◌, true, false, ◌⊎◌, List, [], ◌∷◌, ◌++◌, length, get_or, take, drop, Some, None, Option, sym, refl, ap, ◌∙◌, subst, inl, inr, append_assoc, append-nil, arith, length-drop, take-append-drop, length-take-le}
use Rattle.std.proofs.lemmas.Bool.{cases_eq, cases_lt}
use Rattle.std.proofs.lemmas.List.{nil_from_length}
use Rattle.book.specs.Meaning.{Meaning, Laws, field}
use Rattle.book.specs.declared.field.Field.{Field}
use Rattle.refusal.specs.declared.fault.Fault.{Fault}
use Rattle.refusal.specs.declared.fault.Cause.TheVariants.{Unread, EndsEarly, PastDone}
use Rattle.refusal.specs.Faults.{fault}
use Rattle.model.specs.Records.{TableField, GoodTag, Fields, joined}
use Rattle.model.specs.Records.Value.{read}
use Rattle.model.specs.Records.Fields.{none, next}
use Rattle.model.specs.Walks.{Fails}
use Rattle.model.specs.Walks.Fails.{ends, unread, past, later}
use Rattle.model.proofs.Lists.{never}

abbrev Or : Type 0 → Type 0
Or P = P ⊎ (P → ⊥)

all_below : (P : ℕ → Type 0) → ((i : ℕ) → Or (P i)) → (n : ℕ) → Or ((i : ℕ) → i < n → P i)
all_below P d zero = inl (λ i h. let bad : ⊥ = omega arith in never bad)
all_below P d (suc n) =
    elim (all_below P d n) [
      | inl f ↦ elim (d n) [
        | inl x ↦ inl (λ i h. elim (cases_lt i n) [ inl k ↦ f i k | inr k ↦ let e : n ≡ i = omega arith in subst P e x ])
        | inr x ↦ inr (λ g. x (g n (omega arith)))
      ]
      | inr f ↦ inr (λ g. f (λ i h. g i (omega arith)))
    ]

le_or : (a b : ℕ) → Or (a ≤ b)
le_or a b = elim (cases_lt b a) [ inl h ↦ inr (λ k. omega arith) | inr h ↦ inl h ]

and_or : {P Q : Type 0} → Or P → Or Q → Or (P × Q)
and_or (inl p) (inl q) = inl (p, q)
and_or (inl p) (inr q) = inr (λ x. q x.1)
and_or (inr p) q = inr (λ x. p x.0)

to_or : {P Q : Type 0} → Or P → Or Q → Or (P → Q)
to_or (inl p) (inl q) = inl (λ x. q)
to_or (inl p) (inr q) = inr (λ f. q (f p))
to_or (inr p) q = inl (λ x. never (p x))

not_or : {P : Type 0} → Or P → Or (P → ⊥)
not_or (inl p) = inr (λ f. f p)
not_or (inr p) = inl p

pub good_or : (tag : List ℕ) → Or (GoodTag tag)
good_or tag =
    elim (cases_eq (length tag) 6) [
      | inr e ↦ inr (λ g. e g.six)
      | inl e ↦ elim (all_below (λ i. (32 ≤ get_or tag i 0) × (get_or tag i 0 ≤ 126)) (λ i. and_or (le_or 32 (get_or tag i 0)) (le_or (get_or tag i 0) 126)) 6) [
        | inr p ↦ inr (λ g. p g.plain)
        | inl p ↦ elim (cases_eq (get_or tag 0 0) 32) [
          | inl f ↦ inr (λ g. g.first f)
          | inr f ↦ elim (all_below (λ i. i + 1 < 6 → get_or tag i 0 ≡ 32 → get_or tag (i + 1) 0 ≡ 32) (λ i. to_or (le_or (suc (i + 1)) 6) (to_or (cases_eq (get_or tag i 0) 32) (cases_eq (get_or tag (i + 1) 0) 32))) 6) [
            | inr a ↦ inr (λ g. a (λ i h. g.after i))
            | inl a ↦ inl (record { six = e; plain = p; first = f; after = λ i h. a i (omega arith) h })
          ]
        ]
      ]
    ]

clash_bool : false ≡ true → ⊥
clash_bool p = let z : ◌≡◌ {A = ℕ} 0 1 = cc in omega arith

-- what reading the data d behind p comes to
pub record Cut {V : Type 0} (m : Meaning V) (tag p d : List ℕ) : Type 0 where
  pub spellings : List (List ℕ)
  pub fields : List (TableField V)
  pub are : Fields m tag p spellings fields
  pub bytes : joined spellings ≡ d
  pub done : m.asks tag (p ++ joined spellings) ≡ None

abbrev pub Told : {V : Type 0} → Meaning V → ℕ → List ℕ → ℕ → List ℕ → List ℕ → ℕ → Type 0
Told m n tag base p d k = Cut m tag p d ⊎ ((f : Fault) × Fails m false n tag base p d k f)

module _ {V : Type 0} {m : Meaning V} (laws : Laws m) (n : ℕ) (tag : List ℕ) (base : ℕ) where
  mutual_step : (p d : List ℕ) (k name w : ℕ) → m.asks tag p ≡ Some (field name w) → w ≤ length d → ((v : V) → m.reads tag p (take w d) ≡ Some v → Told m n tag base (p ++ take w d) (drop w d) (k + 1)) → (o : Option V) → m.reads tag p (take w d) ≡ o → Told m n tag base p d k
  mutual_step p d k name w a h go None e =
      let l : length (take w d) ≡ w = length-take-le w d h in
      inr (fault Unread (base + length p) n k, unread {name = name} (take w d) (drop w d) (a ∙ ap (λ z. Some (field name z)) (sym l)) (sym (take-append-drop w d)) e)
  mutual_step p d k name w a h go (Some v) e =
      let l : length (take w d) ≡ w = length-take-le w d h in
      elim (go v e) [
        | inl c ↦ inl (record {
          spellings = take w d ∷ c.spellings;
          fields = record { name = name; value = read v } ∷ c.fields;
          are = next (a ∙ ap (λ z. Some (field name z)) (sym l)) e c.are;
          bytes = ap (λ x. take w d ++ x) c.bytes ∙ take-append-drop w d;
          done = subst (λ x. m.asks tag x ≡ None) (append_assoc p (take w d) (joined c.spellings)) c.done;
        })
        | inr f ↦ inr (f.0, later {name = name} {v = v} (take w d) (drop w d) (a ∙ ap (λ z. Some (field name z)) (sym l)) (sym (take-append-drop w d)) e f.1)
      ]

  pub told : (fuel : ℕ) (p d : List ℕ) (k : ℕ) → length d ≤ fuel → (x : Option Field) → m.asks tag p ≡ x → Told m n tag base p d k
  told fuel p d k h None e =
      elim (cases_lt 0 (length d)) [
        | inl l ↦ inr (fault PastDone (base + length p) n 0, past e l)
        | inr l ↦ let nil : d ≡ [] = nil_from_length d (omega arith) in
            inl (record { spellings = []; fields = []; are = none; bytes = sym nil; done = subst (λ x. m.asks tag x ≡ None) (sym (append-nil p)) e })
      ]
  told zero p d k h (Some x) e =
      let v = (laws.wide tag p x.name x.width e).0 in
      inr (fault EndsEarly (base + length p) n k, ends {name = x.name} {w = x.width} e (omega arith) (λ z. never (clash_bool z)))
  told (suc fuel) p d k h (Some x) e =
      let v = (laws.wide tag p x.name x.width e).0 in
      elim (cases_lt (length d) x.width) [
        | inl l ↦ inr (fault EndsEarly (base + length p) n k, ends {name = x.name} {w = x.width} e l (λ z. never (clash_bool z)))
        | inr l ↦ mutual_step p d k x.name x.width e l (λ u r. told fuel (p ++ take x.width d) (drop x.width d) (k + 1) (let q = length-drop x.width d in omega arith) (m.asks tag (p ++ take x.width d)) refl) (m.reads tag p (take x.width d)) refl
      ]
