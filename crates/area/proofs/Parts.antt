-- Steps over the fields of a record that is known to be whole.
use Rattle.std.proofs.Common.{◌≡◌, ℕ, ◌+◌, ◌-◌, ◌<◌, ◌≤◌, Bool, true, false, ◌⊎◌, List, [], ◌∷◌, length, get_or, take, drop, Some, None, Ok, Err, Option, Result, subst, length-take-le, refl, sym, ap, ◌∙◌, inl, inr, arith, length-drop, take-add, IfSome}
use Rattle.std.proofs.lemmas.Bool.{cases_lt}
use Rattle.std.proofs.lemmas.List.{take_all, take_rest}
use Rattle.book.specs.Meaning.{Meaning, Laws, field}
use Rattle.model.specs.Records.{TableField, joined}
use Rattle.book.specs.Marks.{Fits, Passes, Passed}
use Rattle.refusal.specs.declared.fault.Fault.{Fault}
use Rattle.std.specs.Result.{result_ok}
use Rattle.model.proofs.Lists.{never, both}
use Rattle.model.proofs.Apart.{some_data}
use Rattle.area.specs.declared.part.Part.{Part}
use Rattle.walk.specs.declared.header.Header.{Header}
use Rattle.std.specs.Iterator.{Yields, SkipsThenYields}
use Rattle.area.specs.Finding.{Holds, Parted, Fielded, names}
use Rattle.area.specs.Parts.{Marked, Taken, Stuck, Ahead, Steps, Onward}
use Rattle.area.proofs.Parting.{unknown_field, fits_at, reads_at, part_at, next_at, asked_at}

pub ahead_all : (ss : List (List ℕ)) → Ahead ss 0 0
ahead_all ss = record { few = omega arith; place_is = refl }

-- a tag is known or not
known_or : {V : Type 0} (m : Meaning V) (tag : List ℕ) → (m.knows tag ≡ true) ⊎ (m.knows tag ≡ false)
known_or m tag = go (m.knows tag)
  where
    go : (b : Bool) → (b ≡ true) ⊎ (b ≡ false)
    go true = inl refl
    go false = inr refl

went : (r : Result (Unit {0}) Fault) (u : Unit {0}) → result_ok r ≡ Some u → r ≡ Ok u
went (Ok x) u e = refl
went (Err f) u e = never (cc)

-- a spelling that was passed is taken
pub taken : {V M : Type 0} (m : Meaning V) (stands : List ℕ → List ℕ → M → Type 0) (tag p rest s : List ℕ) (n w : ℕ) (old new : M) (r : Result (Unit {0}) Fault) (u : Unit {0}) → m.knows tag ≡ true → m.asks tag p ≡ Some (field n w) → s ≡ take w rest → w ≤ length rest → stands tag p old → Passed m stands old new s r → result_ok r ≡ Some u → Taken m stands tag p rest n w (Some new)
taken m stands tag p rest s n w old new r u kn a e l st pa ok =
    let f : Fits m stands tag p s = (n, rw (e, length-take-le w rest l) a) in
    let x = subst (Passes m stands tag p s old new) (went r u ok) (pa tag p st f) in
    record { fits = l; known = λ k. a; lump = λ k. never (both kn k); marked = (kn, rw (← e) x.2) }

module _ {V M : Type 0} {m : Meaning V} (laws : Laws m) (stands : List ℕ → List ℕ → M → Type 0) {tag d : List ℕ} {ss : List (List ℕ)} {fs : List (TableField V)} (w : Holds m tag d ss fs) (i at : ℕ) (a : Ahead ss i at) where
  -- under an unknown tag with bytes left, none are behind
  at_start : m.knows tag ≡ false → 0 < length (drop at d) → (i ≡ 0) × (at ≡ 0) × (length ss ≡ 1)
  at_start kn h =
      let u = unknown_field w 0 kn in
      let one = u.0 in
      let f = a.few in
      let p = a.place_is in
      let b = ap length w.bytes in
      let l = length-drop at d in
      elim (cases_lt i (length ss)) [
        | inl k ↦ (let z : i ≡ 0 = omega arith in (z, p ∙ ap (λ k. length (joined (take k ss))) z, one))
        | inr k ↦ (let q = ap (λ x. length (joined x)) (take_all i ss k) in let bad : ⊥ = omega arith in never bad)
      ]

  pub stuck_done : Stuck m stands tag (take at d) (drop at d) → length ss ≤ i
  stuck_done s =
      elim (cases_lt i (length ss)) [
        | inr k ↦ k
        | inl k ↦ (elim (known_or m tag) [
          | inl kn ↦ (let n = get_or (names fs) i 0 in let u = length (get_or ss i []) in let l = length-drop at d in let g = fits_at w kn i at a.few a.place_is k in never (reads_at w kn i at a.few a.place_is u k refl (s.known kn n u (asked_at w kn i at a.few a.place_is k) (omega arith))))
          | inr kn ↦ (let u = (unknown_field w 0 kn).0 in let z = s.lump kn in let i0 : i ≡ 0 = omega arith in let p = a.place_is ∙ ap (λ k. length (joined (take k ss))) i0 in let l = length-drop at d in let q = some_data laws w.begun w.full in let b = ap length w.bytes in let bad : ⊥ = omega arith in never bad)
        ])
      ]

  pub taken_part : (n u : ℕ) (new : Option M) → Taken m stands tag (take at d) (drop at d) n u new → Parted ss (names fs) i (record { number = i; name = n; start = at; width = u }) × Ahead ss (i + 1) (at + u)
  taken_part n u new t =
      elim (known_or m tag) [
        | inl kn ↦ (let q = next_at w kn i at a.few a.place_is n u (t.known kn) in (part_at w kn i at a.few a.place_is n u (t.known kn), record { few = q.0; place_is = q.1 }))
        | inr kn ↦ (let l = t.lump kn in let some = l.2 in let wide = l.1 in let z = at_start kn (omega arith) in let x = unknown_field w 0 kn in let j = length-drop at d in let one = z.2 in let z1 = z.1 in let z0 = z.0 in
            let b = ap length w.bytes in let e = ap length x.1 in
            let all = ap (λ k. length (joined k)) (take_all (i + 1) ss (omega arith)) in
            (record { there = omega arith; name_is = l.0 ∙ sym x.2 ∙ ap (λ k. get_or (names fs) k 0) (sym z0); start_is = a.place_is; width_is = (let g : u ≡ length d = omega arith in g ∙ sym e ∙ ap (λ k. length (get_or ss k [])) (sym z0)) }, record { few = omega arith; place_is = omega arith }))
      ]

-- a field taken is at least one byte wide
pub taken_some : {V M : Type 0} {m : Meaning V} (laws : Laws m) (stands : List ℕ → List ℕ → M → Type 0) (tag p rest : List ℕ) (n u : ℕ) (new : Option M) → Taken m stands tag p rest n u new → 1 ≤ u
taken_some {m = m} laws stands tag p rest n u new t =
    elim (known_or m tag) [ inl kn ↦ (laws.wide tag p n u (t.known kn)).0 | inr kn ↦ (t.lump kn).2 ]

-- what a step over the fields gives
module _ {V M : Type 0} {m : Meaning V} (laws : Laws m) (stands : List ℕ → List ℕ → M → Type 0) (tag d : List ℕ) (i at : ℕ) where
  pub onward_none : Stuck m stands tag (take at d) (take (length d - at) (drop at d)) → (j to : ℕ) → Onward m tag d i at None j to
  onward_none s j to ss fs w a = stuck_done laws stands w i at a (rw take_rest at s)

  pub onward_some : (n u : ℕ) (new : Option M) → at ≤ length d → Taken m stands tag (take at d) (take (length d - at) (drop at d)) n u new → Steps m tag d i at (record { number = i; name = n; start = at; width = u }) (i + 1) (at + u)
  onward_some n u new h t =
      let t' : Taken m stands tag (take at d) (drop at d) n u new = rw take_rest at t in
      let f = t'.fits in
      let l = length-drop at d in
      record {
        number_is = refl;
        start_is = refl;
        one = refl;
        size = refl;
        some = taken_some laws stands tag (take at d) (drop at d) n u new t';
        inside = omega arith;
        told = λ ss fs w a. taken_part laws stands w i at a n u new t';
      }

  -- the mark behind it
  pub onward_marked : (n u : ℕ) (new : Option M) → Taken m stands tag (take at d) (take (length d - at) (drop at d)) n u new → Marked m stands tag (take (at + u) d) new
  onward_marked n u new t =
      let t' : Taken m stands tag (take at d) (drop at d) n u new = rw take_rest at t in
      rw take-add t'.marked

-- steps that keep the book and the record
module _ {V K : Type 0} (means : K → Meaning V) (b : K) (h : Header) where
  pub moved_on : {k : K} {g : Header} (i at : ℕ) (r : Option Part) (j to : ℕ) → g ≡ h → k ≡ b → Onward (means k) g.tag g.data.now i at r j to → Onward (means b) h.tag h.data.now i at r j to
  moved_on {k} {g} i at r j to p q s = subst (λ x. Onward (means b) x.tag x.data.now i at r j to) p (subst (λ x. Onward (means x) g.tag g.data.now i at r j to) q s)

  module _ {S : Type 0} (book : S → K) (head : S → Header) (number at : S → ℕ) where
    abbrev Step : S → Option Part → S → Type 0
    Step s r t = Onward (means (book s)) (head s).tag (head s).data.now (number s) (at s) r (number t) (at t) × (head t ≡ head s) × (book t ≡ book s)

    record Ran (s t : S) (n : ℕ) : Type 0 where
      head_is : head t ≡ h
      book_is : book t ≡ b
      counted : number t ≡ number s + n
      ahead : (ss : List (List ℕ)) (fs : List (TableField V)) → Holds (means b) h.tag h.data.now ss fs → Ahead ss (number s) (at s) → Ahead ss (number t) (at t)

    ran : (s t : S) (xs : List Part) → head s ≡ h → book s ≡ b → Yields Step s xs t → Ran s t (length xs)
    ran s t [] p q e = subst (λ u. Ran s u 0) e (record { head_is = p; book_is = q; counted = omega arith; ahead = λ ss fs w a. a })
    ran s t (x ∷ xs) p q y =
        let u = y.0 in
        let o = moved_on (number s) (at s) (Some x) (number u) (at u) p q y.1.0 in
        let r = ran u t xs (y.1.1 ∙ p) (y.1.2 ∙ q) y.2 in
        let one = o.one in
        let c = r.counted in
        record { head_is = r.head_is; book_is = r.book_is; counted = omega arith; ahead = λ ss fs w a. r.ahead ss fs w (o.told ss fs w a).1 }

    module _ (s u : S) (n : ℕ) (p : head s ≡ h) (q : book s ≡ b) where
      -- the field after n others
      pub nth_within : (r : Option Part) → SkipsThenYields Step s n r u → IfSome r (λ x. x.start + x.width ≤ length h.data.now)
      nth_within None y = tt
      nth_within (Some x) y =
          let t = y.1.0 in
          let r = ran s t y.0 p q y.1.1 in
          let o = moved_on (number t) (at t) (Some x) (number u) (at u) r.head_is r.book_is y.1.2.0 in
          let i = o.inside in
          let z = o.size in
          let st = o.start_is in
          omega arith

      pub nth_found : (ss : List (List ℕ)) (fs : List (TableField V)) → Holds (means b) h.tag h.data.now ss fs → number s ≡ 0 → at s ≡ 0 → (r : Option Part) → SkipsThenYields Step s n r u → Fielded ss (names fs) n r
      nth_found ss fs w e f None y =
          let t = y.1.0 in
          let r = ran s t y.0 p q y.1.1 in
          let a = r.ahead ss fs w (rw (e, f) (ahead_all ss)) in
          let o = moved_on (number t) (at t) None (number u) (at u) r.head_is r.book_is y.1.2.0 ss fs w a in
          let c = r.counted in
          let m = y.2 in
          omega arith
      nth_found ss fs w e f (Some x) y =
          let t = y.1.0 in
          let r = ran s t y.0 p q y.1.1 in
          let a = r.ahead ss fs w (rw (e, f) (ahead_all ss)) in
          let o = moved_on (number t) (at t) (Some x) (number u) (at u) r.head_is r.book_is y.1.2.0 in
          let c = r.counted in
          let m = y.2 in
          let i = o.number_is in
          let k : x.number ≡ n = omega arith in
          subst (λ v. Parted ss (names fs) v x) k (o.told ss fs w a).0
