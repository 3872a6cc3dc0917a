-- What a reading call tells of an area that is known to stand for a ledger.
use Rattle.std.proofs.Common.{◌≡◌, ℕ, ◌≤◌, List, length, take, drop, Some, Ok, Err, Option, sym, refl, ap, ◌∙◌, subst, inl, inr, arith, length-take-le, take_all, take_at}
use Rattle.area.specs.declared.answer.Entry.{Entry}
use Rattle.area.specs.Listing.{list_rules, Filled, all_entries}
use Rattle.area.specs.Reading.{Answers, never_refused, opened, Opened, Counted}
use Rattle.area.specs.Reading.Answers.{astray, refused, answered}
use Rattle.book.specs.Meaning.{Meaning, Laws}
use Rattle.model.specs.declared.area.Area.{Area}
use Rattle.model.specs.Ledgers.{Ledger, Stands, LookRefuses}
use Rattle.model.specs.Ledgers.LookRefuses.{long, walk, badtag, draft}
use Rattle.model.specs.Records.{TableRow, ReadsAs}
use Rattle.model.specs.Walks.{Refuses}
use Rattle.model.proofs.Lists.{never, clash}
use Rattle.model.proofs.Standing.{one_ledger, never_both}
use Rattle.refusal.specs.declared.fault.Fault.{Fault}
use Rattle.report.specs.Listings.{most}
use Rattle.report.proofs.Fielded.{total_few}

module _ {V : Type 0} {m : Meaning V} (laws : Laws m) {buf : List ℕ} {a : Area} {L : Ledger} {t : List (TableRow V)} (s : Stands m buf a L t) where
  -- the answer is what the call gives for this ledger,
  pub told_ok : {T : Type 0} (rules : Ledger → Option Fault → Type 0) (served : Ledger → List (TableRow V) → T → Type 0) (x : T) → Answers m buf a rules served (Ok x) → served L t x
  told_ok rules served x (answered K u r i p) =
      let e = one_ledger laws buf a K L u t r s in
      subst (λ y. served L y x) e.1 (subst (λ k. served k u x) e.0 p)

  -- and the refusal is what its rules give
  pub told_err : {T : Type 0} (rules : Ledger → Option Fault → Type 0) (served : Ledger → List (TableRow V) → T → Type 0) (f : Fault) → Answers {T = T} m buf a rules served (Err f) → rules L (Some f)
  told_err rules served f (astray r) = never (never_both laws buf a L t f s r)
  told_err rules served f (refused K u r p) = subst (λ k. rules k (Some f)) (one_ledger laws buf a K L u t r s).0 p

  pub count_ok : (k : ℕ) → Answers m buf a never_refused Counted (Ok k) → k ≡ length L.records
  count_ok k p = told_ok never_refused Counted k p

  pub count_err : (f : Fault) → Answers {T = ℕ} m buf a never_refused Counted (Err f) → ⊥
  count_err f p = clash refl (told_err never_refused Counted f p)

  long_enough : {f : Fault} (size : ℕ) → length buf ≤ size → list_rules size L (Some f) → ⊥
  long_enough size h (inl (g, w, e)) =
      let i = w.0 in
      let j = total_few laws s.whole in
      let k = s.fits in
      let n = length-take-le a.end buf (omega arith) in
      let o = ap length s.bytes in
      omega arith
  long_enough size h (inr (q, e)) = clash refl e

  -- as many entries as bytes are enough,
  pub list_err : {size : ℕ} {old new : List Entry} {f : Fault} → length buf ≤ size → Answers {T = ℕ} m buf a (list_rules size) (Filled old new) (Err f) → ⊥
  list_err {size} {old} {new} {f} h p = long_enough size h (told_err (list_rules size) (Filled old new) f p)

  -- and the first of them are all fields
  pub list_ok : {size count : ℕ} {old new : List Entry} → Answers m buf a (list_rules size) (Filled old new) (Ok count) → take count new ≡ all_entries L t
  list_ok {size} {count} {old} {new} p =
      let f = told_ok (list_rules size) (Filled old new) count p in
      ap (take count) f.filled ∙ take_at (all_entries L t) (drop count old) count (sym f.counted)

module _ {V : Type 0} {m : Meaning V} where
  -- what a look refuses of bytes that are not too many, a walk of them refuses
  look_refused : (bytes : List ℕ) (f : Fault) → length bytes ≤ most → LookRefuses m bytes (opened (length bytes)) f → Refuses m 0 0 bytes f
  look_refused bytes f h (long r) = let bad : ⊥ = omega arith in never bad
  look_refused bytes f h (walk i r) = subst (λ x. Refuses m 0 0 x f) (take_all (length bytes) bytes (omega arith)) r
  look_refused bytes f h (badtag i d b w g) = never (clash d refl)
  look_refused bytes f h (draft i d b w g n r) = never (clash d refl)

  pub open_err : (bytes : List ℕ) (f : Fault) → length bytes ≤ most → Answers {T = Area} m bytes (opened (length bytes)) never_refused (Opened (length bytes)) (Err f) → Refuses m 0 0 bytes f
  open_err bytes f h (astray r) = look_refused bytes f h r
  open_err bytes f h (refused L t s p) = never (clash refl p)

  pub open_ok : (bytes : List ℕ) (len : ℕ) (a : Area) → Answers m bytes (opened len) never_refused (Opened len) (Ok a) → (a ≡ opened len) × ((L : Ledger) × (t : List (TableRow V)) × Stands m bytes a L t)
  open_ok bytes len a (answered L t s i e) = (e, (L, t, subst (λ x. Stands m bytes x L t) (sym e) s))

  -- bytes that stand for a ledger without a draft read as its table
  pub reads : (bytes : List ℕ) {L : Ledger} {t : List (TableRow V)} → length bytes ≤ most → Stands m bytes (opened (length bytes)) L t → ReadsAs m bytes L.records t
  reads bytes h s = record {
    bytes = sym (take_all (length bytes) bytes (omega arith)) ∙ s.bytes;
    whole = s.whole;
    within = omega arith;
  }
