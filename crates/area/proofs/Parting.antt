-- Walking over the fields of a record that is known to be whole.
use Rattle.std.proofs.Common.{◌≡◌, ℕ, zero, suc, ◌+◌, ◌-◌, ◌<◌, ◌≤◌, true, false, List, [], ◌∷◌, ◌++◌, length, get_or, take, drop, Some, None, Ok, Err, Option, sym, refl, ap, ◌∙◌, subst, inl, inr, append_assoc, append-nil, arith, length-append, take-append-drop, take_at, drop_at}
use Rattle.std.proofs.lemmas.Bool.{cases_lt}
use Rattle.std.proofs.lemmas.List.{take_more, drop_more, take_all}
use Rattle.book.specs.Meaning.{Meaning, field}
use Rattle.model.specs.Records.{TableField, Fields, Begun, Full, joined}
use Rattle.model.specs.Records.Fields.{none, next}
use Rattle.model.specs.Records.Begun.{known, bare, lump}
use Rattle.model.specs.Records.Full.{asked, filled}
use Rattle.refusal.specs.declared.fault.Fault.{Fault}
use Rattle.book.specs.Meaning.{Laws}
use Rattle.model.specs.declared.seen.Read.{Read}
use Rattle.model.specs.Looks.{Fieldeds}
use Rattle.model.proofs.Unique.{begun_one}
use Rattle.model.proofs.Apart.{record_inside}
use Rattle.model.specs.Walks.{Fails}
use Rattle.model.proofs.Lists.{never, both, clash, same_width, same_name, joined_append, joined_push}
use Rattle.area.specs.Finding.{Holds, Parted, names}

-- spellings before k, spelling k, spellings behind it
pub joined_cut : (ss : List (List ℕ)) (k : ℕ) → k < length ss → joined ss ≡ joined (take k ss) ++ (get_or ss k [] ++ joined (drop (k + 1) ss))
joined_cut ss k h =
    let e : take k ss ++ (get_or ss k [] ∷ drop (k + 1) ss) ≡ ss = ap (λ i. take k ss ++ i) (sym (drop_more ss k [] h)) ∙ take-append-drop k ss in
    ap joined (sym e) ∙ joined_append (take k ss) (get_or ss k [] ∷ drop (k + 1) ss)

pub joined_more : (ss : List (List ℕ)) (k : ℕ) → k < length ss → joined (take (k + 1) ss) ≡ joined (take k ss) ++ get_or ss k []
joined_more ss k h = ap joined (take_more ss k [] h) ∙ joined_push (take k ss) (get_or ss k [])

-- what is asked for behind the first i fields
pub record Next {V : Type 0} (m : Meaning V) (tag p : List ℕ) (ss : List (List ℕ)) (ns : List ℕ) (i : ℕ) : Type 0 where
  pub asks : m.asks tag (p ++ joined (take i ss)) ≡ Some (field (get_or ns i 0) (length (get_or ss i [])))
  pub value : V
  pub reads : m.reads tag (p ++ joined (take i ss)) (get_or ss i []) ≡ Some value

pub fields_at : {V : Type 0} {m : Meaning V} {tag : List ℕ} {p : List ℕ} {ss : List (List ℕ)} {fs : List (TableField V)} (i : ℕ) → i < length ss → Fields m tag p ss fs → Next m tag p ss (names fs) i
fields_at i h none = let bad : ⊥ = omega arith in never bad
fields_at {m = m} {tag = tag} {p = p} zero h (next {s = s} {n = n} {v = v} a r f) = record {
  asks = subst (λ x. m.asks tag x ≡ Some (field n (length s))) (sym (append-nil p)) a;
  value = v;
  reads = subst (λ x. m.reads tag x s ≡ Some v) (sym (append-nil p)) r;
}
fields_at {m = m} {tag = tag} {p = p} (suc i) h (next {s = s} {ss = ss} {fs = fs} a r f) =
    let x = fields_at i (omega arith) f in
    let e : p ++ (s ++ joined (take i ss)) ≡ (p ++ s) ++ joined (take i ss) = sym (append_assoc p s (joined (take i ss))) in
    record {
      asks = subst (λ y. m.asks tag y ≡ Some (field (get_or (names fs) i 0) (length (get_or ss i [])))) (sym e) x.asks;
      value = x.value;
      reads = subst (λ y. m.reads tag y (get_or ss i []) ≡ Some x.value) (sym e) x.reads;
    }

module _ {V : Type 0} {m : Meaning V} {tag d : List ℕ} {ss : List (List ℕ)} {fs : List (TableField V)} (w : Holds m tag d ss fs) where
  pub unknown_field : (k : ℕ) → m.knows tag ≡ false → (length ss ≡ 1) × (get_or ss 0 [] ≡ d) × (get_or (names fs) 0 0 ≡ 0)
  unknown_field k kn = go w.begun w.full w.bytes
    where
      go : {rr : List (List ℕ)} {gs : List (TableField V)} → Begun m tag rr gs → Full m tag rr → joined rr ≡ d → (length rr ≡ 1) × (get_or rr 0 [] ≡ d) × (get_or (names gs) 0 0 ≡ 0)
      go (known i f) u e = never (both i kn)
      go (bare i) (asked j a) e = never (both j kn)
      go (bare i) (filled j h) e = let bad : ⊥ = omega arith in never bad
      go (lump {s = s} i h) u e = (refl, sym (append-nil s) ∙ e, refl)

  known_fields : m.knows tag ≡ true → Fields m tag [] ss fs
  known_fields kn = go w.begun
    where
      go : {rr : List (List ℕ)} {gs : List (TableField V)} → Begun m tag rr gs → Fields m tag [] rr gs
      go (known i f) = f
      go (bare i) = never (both kn i)
      go (lump i h) = never (both kn i)

  known_done : m.knows tag ≡ true → m.asks tag d ≡ None
  known_done kn = go w.full
    where
      go : Full m tag ss → m.asks tag d ≡ None
      go (asked i a) = subst (λ x. m.asks tag x ≡ None) w.bytes a
      go (filled i h) = never (both kn i)

  -- behind the first i fields, at this place
  module _ (kn : m.knows tag ≡ true) (i at : ℕ) (h : i ≤ length ss) (p : at ≡ length (joined (take i ss))) where
    passed : i < length ss → take at d ≡ joined (take i ss)
    passed l = ap (take at) (sym w.bytes ∙ joined_cut ss i l) ∙ take_at (joined (take i ss)) _ at (sym p)

    all_passed : length ss ≤ i → take at d ≡ d
    all_passed l = take_all at d (let q : take i ss ≡ ss = take_all i ss l in let z = ap length w.bytes in let y = p ∙ ap (λ k. length (joined k)) q in omega arith)

    pub asked_at : i < length ss → m.asks tag (take at d) ≡ Some (field (get_or (names fs) i 0) (length (get_or ss i [])))
    asked_at l = subst (λ x. m.asks tag x ≡ Some (field (get_or (names fs) i 0) (length (get_or ss i [])))) (sym (passed l)) (fields_at i l (known_fields kn)).asks

    -- the book asks for a field there exactly if there is one more
    pub one_there : {n u : ℕ} → m.asks tag (take at d) ≡ Some (field n u) → i < length ss
    one_there {n} {u} a =
        elim (cases_lt i (length ss)) [
          | inl l ↦ l
          | inr l ↦ never (clash (subst (λ x. m.asks tag x ≡ Some (field n u)) (all_passed l) a) (known_done kn))
        ]

    pub none_there : m.asks tag (take at d) ≡ None → length ss ≤ i
    none_there a = elim (cases_lt i (length ss)) [ inl l ↦ never (clash (asked_at l) a) | inr l ↦ l ]

    spelling_at : i < length ss → take (length (get_or ss i [])) (drop at d) ≡ get_or ss i []
    spelling_at l =
        let e : drop at d ≡ get_or ss i [] ++ joined (drop (i + 1) ss) = ap (drop at) (sym w.bytes ∙ joined_cut ss i l) ∙ drop_at (joined (take i ss)) _ at (sym p) in
        ap (take (length (get_or ss i []))) e ∙ take_at (get_or ss i []) _ (length (get_or ss i [])) refl

    pub fits_at : i < length ss → length (get_or ss i []) ≤ length d - at
    fits_at l =
        let a = ap length (sym w.bytes ∙ joined_cut ss i l) in
        let b = length-append (joined (take i ss)) (get_or ss i [] ++ joined (drop (i + 1) ss)) in
        let c = length-append (get_or ss i []) (joined (drop (i + 1) ss)) in
        omega arith

    pub reads_at : (u : ℕ) → i < length ss → u ≡ length (get_or ss i []) → m.reads tag (take at d) (take u (drop at d)) ≡ None → ⊥
    reads_at u l e r =
        let x = fields_at i l (known_fields kn) in
        let s : take u (drop at d) ≡ get_or ss i [] = ap (λ k. take k (drop at d)) e ∙ spelling_at l in
        clash x.reads (subst (λ y. m.reads tag y (get_or ss i []) ≡ None) (passed l) (subst (λ y. m.reads tag (take at d) y ≡ None) s r))

    pub part_at : (n u : ℕ) → m.asks tag (take at d) ≡ Some (field n u) → Parted ss (names fs) i (record { number = i; name = n; start = at; width = u })
    part_at n u a =
        let l = one_there a in
        record { there = l; name_is = same_name a (asked_at l); start_is = p; width_is = same_width a (asked_at l) }

    pub next_at : (n u : ℕ) → m.asks tag (take at d) ≡ Some (field n u) → (i + 1 ≤ length ss) × (at + u ≡ length (joined (take (i + 1) ss)))
    next_at n u a =
        let l = one_there a in
        let e = same_width a (asked_at l) in
        let k = ap length (joined_more ss i l) ∙ length-append (joined (take i ss)) (get_or ss i []) in
        (omega arith, omega arith)

-- a reading of the whole data counts the fields
module _ {V M : Type 0} {m : Meaning V} (laws : Laws m) (stands : List ℕ → List ℕ → M → Type 0) {tag d : List ℕ} {ss : List (List ℕ)} {fs : List (TableField V)} (w : Holds m tag d ss fs) where
  pub count_known : (o : Option (Read M)) (r : Read M) → o ≡ Some r → Fieldeds m stands false 0 tag 0 d (Ok o) → r.count ≡ length ss
  count_known o r e f =
      let x = subst (λ i. Fieldeds m stands false 0 tag 0 d (Ok i)) e f in
      let z = begun_one laws w.begun (known x.known x.are) (w.bytes ∙ sym x.bytes) in
      sym x.count ∙ ap length (sym z.0)

  pub count_never : (f : Fault) → Fieldeds m stands false 0 tag 0 d (Err f) → ⊥
  count_never f x = record_inside laws x.0 (subst (λ i. Fails m false 0 tag 0 [] i 0 f) (sym w.bytes) x.1) w.begun w.full
