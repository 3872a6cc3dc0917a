-- Outcomes that a place or a number has joined.
use Rattle.std.proofs.Common.{◌≡◌, ℕ, ◌+◌, ◌-◌, ◌≤◌, List, length, take, drop, Ok, Err, Result, sym, refl, subst, arith, Some}
use Rattle.book.specs.Meaning.{Meaning, field}
use Rattle.book.specs.Marks.{Fits, Passes, Passed}
use Rattle.model.proofs.Fielding.{cut, cut_long}
use Rattle.refusal.specs.declared.fault.Fault.{Fault}
use Rattle.refusal.specs.Faults.{in_field, in_record, fielded, recorded}

clash : {A : Type 0} → ◌≡◌ {A = ℕ} 0 1 → A
clash z = let bad : ⊥ = omega arith in elim bad [ ]

pub fielded_broke : {T : Type 0} (r : Result T Fault) (place k : ℕ) (f : Fault) → fielded r place k ≡ Err f → (g : Fault) × (r ≡ Err g) × (f ≡ in_field g place k)
fielded_broke (Ok x) place k f e = clash (cc)
fielded_broke (Err g) place k f e = (g, refl, let h : in_field g place k ≡ f = cc in sym h)

pub fielded_went : {T : Type 0} (r : Result T Fault) (place k : ℕ) (x : T) → fielded r place k ≡ Ok x → r ≡ Ok x
fielded_went (Ok y) place k x e = e
fielded_went (Err g) place k x e = clash (cc)

pub recorded_broke : {T : Type 0} (r : Result T Fault) (n : ℕ) (f : Fault) → recorded r n ≡ Err f → (g : Fault) × (r ≡ Err g) × (f ≡ in_record g n)
recorded_broke (Ok x) n f e = clash (cc)
recorded_broke (Err g) n f e = (g, refl, let h : in_record g n ≡ f = cc in sym h)

pub recorded_went : {T : Type 0} (r : Result T Fault) (n : ℕ) (x : T) → recorded r n ≡ Ok x → r ≡ Ok x
recorded_went (Ok y) n x e = e
recorded_went (Err g) n x e = clash (cc)

-- a spelling s of the width asked for, cut from the data d at i, and what passing it comes to
module _ {V M : Type 0} (m : Meaning V) (stands : List ℕ → List ℕ → M → Type 0) (tag d s : List ℕ) (i n w : ℕ) (old new : M) (r : Result (Unit {0}) Fault) (a : m.asks tag (take i d) ≡ Some (field n w)) (h : i + w ≤ length d) (is : s ≡ take (i + w - i) (drop i d)) (st : stands tag (take i d) old) (p : Passed m stands old new s r) where
  pub passing : Passes m stands tag (take i d) (take w (drop i d)) old new r
  passing =
      let f : Fits m stands tag (take i d) s = (n, rw (is, cut i w, cut_long d i w (omega arith)) a) in
      rw (is, cut i w) at (p tag (take i d) st f)

  pub passed_ok : r ≡ Ok tt → Passes m stands tag (take i d) (take w (drop i d)) old new (Ok tt)
  passed_ok e = subst (Passes m stands tag (take i d) (take w (drop i d)) old new) e passing

  pub passed_err : (f : Fault) → r ≡ Err f → Passes m stands tag (take i d) (take w (drop i d)) old new (Err f)
  passed_err f e = subst (Passes m stands tag (take i d) (take w (drop i d)) old new) e passing
