-- Reading and spelling under Blank.
use Rattle.std.proofs.Common.{◌≡◌, ℕ, zero, suc, true, false, ◌&&◌, eqb, List, length, replicate, Some, None, Ok, Err, Option, Result, sym, refl, ap, ◌∙◌, eq-eqb}
use lib.ListN.{length-replicate}
use borrow.Author.Tests.{both_ways}
use Rattle.std.proofs.lemmas.Bool.{and_from}
use Rattle.refusal.specs.declared.fault.Fault.{Fault}
use Rattle.kind.specs.Kinds.{Laws, Checked}
use Rattle.kinds.specs.Bytes.{spaces}
use Rattle.kinds.specs.Layers.{blank, blank_given}
use Rattle.kinds.specs.Texts.{empty}

-- where there are other bytes than spaces, the kind below is asked
pub blank_checked : {V : Type 0} (w : ℕ) (f : List ℕ → Option V) (s : List ℕ) (r : Result (Unit {0}) Fault) → (eqb (length s) w && spaces s) ≡ false → Checked f s r → Checked (blank w f) s r
blank_checked w f s (Ok u) t p = (Some p.0, rw (t, p.1) refl)
blank_checked w f s (Err e) t p = (rw (t, p.0) refl, p.1)

-- spaces that the kind below reads spell no value of it
pub blanked : {V : Type 0} {w : ℕ} {f : List ℕ → Option V} → Laws w f → (s p : List ℕ) (v : V) → blank w f s ≡ Some (Some v) → f p ≡ Some v → spaces p ≡ true → ⊥
blanked {w = w} {f = f} k s p v e h t =
    let q = blank_given (eqb (length s) w && spaces s) (f s) v e in
    let same : p ≡ s = k.once p s v h q.1 in
    let b : (eqb (length s) w && spaces s) ≡ true = and_from _ _ (eq-eqb (length s) w (k.sized s v q.1)) (ap spaces (sym same) ∙ t) in
    both_ways _ q.0 b

spaced : (n : ℕ) → spaces (replicate n 32) ≡ true
spaced zero = refl
spaced (suc n) = spaced n

-- spaces of the width are absent under Blank, and what Spaces reads
pub all_blank : {V : Type 0} (w : ℕ) (f : List ℕ → Option V) (s : List ℕ) (n : ℕ) → s ≡ replicate n 32 → n ≡ w → blank w f s ≡ Some None
all_blank w f s n e h = rw (e, length-replicate {A = ℕ} n 32, eq-eqb n w h, spaced n) refl

pub all_empty : (w : ℕ) (s : List ℕ) (n : ℕ) → s ≡ replicate n 32 → n ≡ w → empty w s ≡ Some tt
unfolding empty
all_empty w s n e h = rw (e, length-replicate {A = ℕ} n 32, eq-eqb n w h, spaced n) refl
