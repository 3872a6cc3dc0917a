-- All bytes read as a table, or are refused.
use Rattle.std.proofs.Common.{◌≡◌, ℕ, zero, suc, ◌+◌, ◌-◌, ◌<◌, ◌≤◌, Bool, true, false, ◌⊎◌, List, [], ◌∷◌, ◌++◌, length, take, drop, sym, refl, ap, ◌∙◌, subst, inl, inr, arith, length-drop, None}
use Rattle.std.proofs.lemmas.Bool.{cases_lt}
use Rattle.std.proofs.lemmas.List.{nil_from_length}
use Rattle.book.specs.Meaning.{Meaning, Laws}
use Rattle.refusal.specs.declared.fault.Fault.{Fault}
use Rattle.refusal.specs.declared.fault.Cause.TheVariants.{CutOff, BadTag, BadLength}
use Rattle.model.specs.declared.seen.Read.{Read}
use Rattle.refusal.specs.Faults.{fault}
use Rattle.model.specs.Records.{Record, TableRow, GoodTag, AllWhole, joined, digits5, record_of, written}
use Rattle.model.specs.Records.AllWhole.{none as no_rows, more}
use Rattle.model.specs.Walks.{Refuses, Says}
use Rattle.model.specs.Walks.Refuses.{short, later}
use Rattle.model.specs.Looks.{Fielded, Led}
use Rattle.model.specs.Laws.{ReadingLaw, ReadsTable, WalkRefuses}
use Rattle.model.proofs.Lists.{same_or}
use Rattle.model.proofs.Unique.{one_list, same_bytes}
use Rattle.model.proofs.Apart.{refuses_apart}
use Rattle.model.proofs.OneFault.{one_refuse}
use Rattle.model.proofs.Decide.{good_or, told}
use Rattle.model.proofs.Leading.{no_tag, no_length, no_end, bad_data, known_led, unknown_led}

some_below : (P : ℕ → Type 0) → ((i : ℕ) → P i ⊎ (P i → ⊥)) → (n : ℕ) → ((i : ℕ) × P i) ⊎ ((i : ℕ) → i < n → P i → ⊥)
some_below P d zero = inr (λ i h p. let bad : ⊥ = omega arith in bad)
some_below P d (suc n) =
    elim (d n) [
      | inl p ↦ inl (n, p)
      | inr p ↦ elim (some_below P d n) [
        | inl q ↦ inl q
        | inr q ↦ inr (λ i h r. elim (cases_lt i n) [ inl k ↦ q i k r | inr k ↦ (let e : i ≡ n = omega arith in p (subst P e r)) ])
      ]
    ]

says_or : (five : List ℕ) → ((k : ℕ) × Says five k) ⊎ ((k : ℕ) → Says five k → ⊥)
says_or five =
    let one : (k : ℕ) → Says five k ⊎ (Says five k → ⊥) = λ k. elim (same_or five (digits5 k)) [
      | inr e ↦ inr (λ s. e s.0)
      | inl e ↦ elim (cases_lt 0 k) [
        | inr h ↦ inr (λ s. let z = s.1 in omega arith)
        | inl h ↦ elim (cases_lt 99985 k) [ inl j ↦ inr (λ s. let z = s.2 in omega arith) | inr j ↦ inl (e, h, j) ]
      ]
    ] in
    elim (some_below (Says five) one 99986) [ inl x ↦ inl x | inr h ↦ inr (λ k s. let z = s.2 in h k (omega arith) s) ]

module _ {V : Type 0} (m : Meaning V) (laws : Laws m) where
  First : ℕ → ℕ → List ℕ → Type 0
  First at n a = ((size : ℕ) × Led m a size) ⊎ ((f : Fault) × Refuses m at n a f)

  by_data : (at n : ℕ) (a : List ℕ) (h : 11 ≤ length a) (g : GoodTag (take 6 a)) (size : ℕ) (s : Says (take 5 (drop 6 a)) size) (l : size ≤ length a - 11) (b : Bool) → m.knows (take 6 a) ≡ b → First at n a
  unfolding First
  by_data at n a h g size s l false k = inl (11 + size, unknown_led m a at n h g size s l k)
  by_data at n a h g size s l true k =
      let d = take size (drop 11 a) in
      elim (told laws n (take 6 a) (at + 11) (length d) [] d 0 (omega arith) (m.asks (take 6 a) []) refl) [
        | inr f ↦ inr (f.0, bad_data m a at n h g size s l k f.1)
        | inl c ↦
            let st : List ℕ → List ℕ → Unit {0} → Type 0 = λ x y z. Unit {0} in
            let r : Read (Unit {0}) = record { mark = tt; count = length c.spellings } in
            let x : Fielded m st false (take 6 a) d r = record { known = k; spellings = c.spellings; fields = c.fields; are = c.are; bytes = c.bytes; count = refl; mark = tt; done = λ z. subst (λ i. m.asks (take 6 a) i ≡ None) c.bytes c.done } in
            inl (11 + size, known_led m a at n h g size s l x)
      ]

  first_or : (at n : ℕ) (a : List ℕ) → 0 < length a → First at n a
  unfolding First
  first_or at n a pos =
      elim (cases_lt (length a) 11) [
        | inl l ↦ inr (fault CutOff at n 0, short pos l)
        | inr h ↦ elim (good_or (take 6 a)) [
          | inr b ↦ inr (fault BadTag at n 0, no_tag m a at n h b)
          | inl g ↦ elim (says_or (take 5 (drop 6 a))) [
            | inr q ↦ inr (fault BadLength (at + 6) n 0, no_length m a at n h g q)
            | inl q ↦ elim (cases_lt (length a - 11) q.0) [
              | inl l ↦ inr (fault CutOff at n 0, no_end m a at n h g q.0 q.1 l)
              | inr l ↦ by_data at n a h g q.0 q.1 l (m.knows (take 6 a)) refl
            ]
          ]
        ]
      ]

  all_or : (fuel at n : ℕ) (a : List ℕ) → length a ≤ fuel → ((l : List Record) × (t : List (TableRow V)) × (a ≡ written l) × AllWhole m l t) ⊎ ((f : Fault) × Refuses m at n a f)
  unfolding First
  all_or zero at n a h = inl ([], [], nil_from_length a (omega arith), no_rows)
  all_or (suc fuel) at n a h =
      elim (cases_lt 0 (length a)) [
        | inr z ↦ inl ([], [], nil_from_length a (omega arith), no_rows)
        | inl pos ↦ elim (first_or at n a pos) [
          | inr f ↦ inr f
          | inl x ↦
              let e = x.1.entry in
              let size = x.0 in
              let lg = x.1.long in
              let ln = length-drop size a in
              elim (all_or fuel (at + (11 + length (joined e.spellings))) (n + 1) (drop size a) (omega arith)) [
                | inr f ↦ inr (f.0, later e x.1.row (drop size a) x.1.is x.1.whole f.1)
                | inl y ↦ inl (e ∷ y.0, x.1.row ∷ y.1, x.1.is ∙ ap (λ i. record_of e.tag (joined e.spellings) ++ i) y.2, more x.1.whole y.3)
              ]
        ]
      ]

  pub either_way : (a : List ℕ) → length a ≤ 99996 → ((t : List (TableRow V)) × ReadsTable m a t) ⊎ ((f : Fault) × WalkRefuses m a f)
  either_way a h =
      elim (all_or (length a) 0 0 a (omega arith)) [
        | inl y ↦ inl (y.1, (y.0, record { bytes = y.2; whole = y.3; within = h }))
        | inr f ↦ inr f
      ]

  pub reading_law : ReadingLaw m
  reading_law = record {
    either = either_way;
    apart = λ a t f r x. refuses_apart laws x r.1.whole r.1.bytes;
    one_table = λ a t u r s. (one_list laws r.1.whole s.1.whole (sym r.1.bytes ∙ s.1.bytes)).1;
    one_fault = λ a f g x y. one_refuse laws x y;
    one_spelling = λ a b t r s. sym (same_bytes laws r.1 s.1);
  }
