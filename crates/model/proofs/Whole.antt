-- Lists of whole records: put together, cut, one more; a draft with one spelling more.
use Rattle.std.proofs.Common.{◌≡◌, ℕ, zero, suc, ◌+◌, ◌<◌, Bool, true, false, List, [], ◌∷◌, ◌++◌, length, get_or, take, drop, set, Some, None, Option, sym, refl, ap, ◌∙◌, subst, inl, inr, append_assoc, append-nil, arith, length-append}
use Rattle.std.proofs.lemmas.Bool.{cases_eq, cases_lt}
use Rattle.book.specs.Meaning.{Meaning, field}
use Rattle.book.specs.declared.field.Field.{Field}
use Rattle.model.specs.Records.{Record, TableField, TableRow, Fields, Begun, Full, Wanting, Misfits, Whole, AllWhole, joined, digits5, record_of, written}
use Rattle.model.specs.Records.Value.{read, raw}
use Rattle.model.specs.Records.Fields.{none, next}
use Rattle.model.specs.Records.Begun.{known, bare, lump}
use Rattle.model.specs.Records.Full.{asked, filled}
use Rattle.model.specs.Records.Wanting.{asks, empty}
use Rattle.model.specs.Records.Misfits.{width, empty as hollow}
use Rattle.model.specs.Records.AllWhole.{none as no_rows, more}
use Rattle.model.specs.Rules.{nothing}
use Rattle.model.proofs.Lists.{never}

pub written_append : (l k : List Record) → written (l ++ k) ≡ written l ++ written k
written_append [] k = refl
written_append (e ∷ l) k = ap (λ x. record_of e.tag (joined e.spellings) ++ x) (written_append l k) ∙ sym (append_assoc (record_of e.tag (joined e.spellings)) (written l) (written k))

pub record_length : (tag d : List ℕ) → length tag ≡ 6 → length (record_of tag d) ≡ 11 + length d
unfolding record_of
record_length tag d s =
    let a = length-append (tag ++ digits5 (length d)) d in
    let b = length-append tag (digits5 (length d)) in
    omega arith

module _ {V : Type 0} {m : Meaning V} where
  pub all_append : {l k : List Record} {t u : List (TableRow V)} → AllWhole m l t → AllWhole m k u → AllWhole m (l ++ k) (t ++ u)
  all_append no_rows y = y
  all_append (more w ws) y = more w (all_append ws y)

  pub all_take : (n : ℕ) {l : List Record} {t : List (TableRow V)} → AllWhole m l t → AllWhole m (take n l) (take n t)
  all_take zero w = no_rows
  all_take (suc n) no_rows = no_rows
  all_take (suc n) (more w ws) = more w (all_take n ws)

  pub all_drop : (n : ℕ) {l : List Record} {t : List (TableRow V)} → AllWhole m l t → AllWhole m (drop n l) (drop n t)
  all_drop zero w = w
  all_drop (suc n) no_rows = no_rows
  all_drop (suc n) (more w ws) = all_drop n ws

  pub all_at : (n : ℕ) {l : List Record} {t : List (TableRow V)} → n < length l → AllWhole m l t → (r : TableRow V) × Whole m (get_or l n nothing) r
  all_at n h no_rows = let bad : ⊥ = omega arith in never bad
  all_at zero h (more {r = r} w ws) = (r, w)
  all_at (suc n) h (more w ws) = all_at n (omega arith) ws

  pub all_set : (n : ℕ) {l : List Record} {t : List (TableRow V)} {e : Record} {r : TableRow V} → AllWhole m l t → Whole m e r → AllWhole m (set l n e) (set t n r)
  all_set zero no_rows w = no_rows
  all_set (suc n) no_rows w = no_rows
  all_set zero (more v vs) w = more w vs
  all_set (suc n) (more v vs) w = more v (all_set n vs w)

  -- one field more at the end
  pub fields_push : {tag p s : List ℕ} {ss : List (List ℕ)} {fs : List (TableField V)} {n : ℕ} {v : V} → Fields m tag p ss fs → m.asks tag (p ++ joined ss) ≡ Some (field n (length s)) → m.reads tag (p ++ joined ss) s ≡ Some v → Fields m tag p (ss ++ (s ∷ [])) (fs ++ (record { name = n; value = read v } ∷ []))
  fields_push {tag} {p} {s} {n = n} {v = v} none a r =
      let a' : m.asks tag p ≡ Some (field n (length s)) = subst (λ x. m.asks tag x ≡ Some (field n (length s))) (append-nil p) a in
      let r' : m.reads tag p s ≡ Some v = subst (λ x. m.reads tag x s ≡ Some v) (append-nil p) r in
      next a' r' none
  fields_push {tag} {p} {s} {n = n} {v = v} (next {s = o} {ss = ss} b q f) a r =
      let e : p ++ (o ++ joined ss) ≡ (p ++ o) ++ joined ss = sym (append_assoc p o (joined ss)) in
      next b q (fields_push f (subst (λ x. m.asks tag x ≡ Some (field n (length s))) e a) (subst (λ x. m.reads tag x s ≡ Some v) e r))

  pub begin_begun : (tag : List ℕ) (b : Bool) → m.knows tag ≡ b → Begun m tag [] []
  begin_begun tag true e = known e none
  begin_begun tag false e = bare e

  module _ {tag s : List ℕ} {ss : List (List ℕ)} {fs : List (TableField V)} (room : Full m tag ss → ⊥) (fit : Misfits m tag ss s → ⊥) (good : (m.knows tag ≡ true) × (m.reads tag (joined ss) s ≡ None) → ⊥) where
    push_read : {n : ℕ} → m.knows tag ≡ true → Fields m tag [] ss fs → m.asks tag (joined ss) ≡ Some (field n (length s)) → (o : Option V) → m.reads tag (joined ss) s ≡ o → (gs : List (TableField V)) × Begun m tag (ss ++ (s ∷ [])) gs
    push_read k f a None e = never (good (k, e))
    push_read {n} k f a (Some v) e = (fs ++ (record { name = n; value = read v } ∷ []), known k (fields_push f a e))

    push_asked : m.knows tag ≡ true → Fields m tag [] ss fs → (x : Option Field) → m.asks tag (joined ss) ≡ x → (gs : List (TableField V)) × Begun m tag (ss ++ (s ∷ [])) gs
    push_asked k f None e = never (room (asked k e))
    push_asked k f (Some x) e =
        elim (cases_eq (length s) x.width) [
          | inl q ↦ push_read k f (e ∙ ap (λ z. Some (field x.name z)) (sym q)) (m.reads tag (joined ss) s) refl
          | inr q ↦ never (fit (width k e q))
        ]

  -- a draft takes one spelling more where no rule stands against it
  pub push : {tag s : List ℕ} {ss : List (List ℕ)} {fs : List (TableField V)} → (Full m tag ss → ⊥) → (Misfits m tag ss s → ⊥) → ((m.knows tag ≡ true) × (m.reads tag (joined ss) s ≡ None) → ⊥) → Begun m tag ss fs → (gs : List (TableField V)) × Begun m tag (ss ++ (s ∷ [])) gs
  push {tag} {s} {ss} room fit good (known k f) = push_asked room fit good k f (m.asks tag (joined ss)) refl
  push {tag} {s} room fit good (bare k) =
      elim (cases_lt 0 (length s)) [
        | inl h ↦ (record { name = 0; value = raw s } ∷ [], lump k h)
        | inr h ↦ never (fit (hollow k (omega arith)))
      ]
  push room fit good (lump k h) = never (room (filled k (omega arith)))

  -- where a record does not want a field, it is full
  full_asked : (tag : List ℕ) (ss : List (List ℕ)) → m.knows tag ≡ true → (Wanting m tag ss → ⊥) → (x : Option Field) → m.asks tag (joined ss) ≡ x → Full m tag ss
  full_asked tag ss k h None e = asked k e
  full_asked tag ss k h (Some x) e = never (h (asks k e))

  pub full_or : (tag : List ℕ) (ss : List (List ℕ)) → (Wanting m tag ss → ⊥) → (b : Bool) → m.knows tag ≡ b → Full m tag ss
  full_or tag ss h true e = full_asked tag ss e h (m.asks tag (joined ss)) refl
  full_or tag ss h false e = elim (cases_lt 0 (length ss)) [ inl l ↦ filled e l | inr l ↦ never (h (empty e (omega arith))) ]
