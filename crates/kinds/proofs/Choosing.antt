-- Checking and spelling under Or-else.
use Rattle.std.proofs.Common.{◌≡◌, ℕ, eqb, List, length, Some, None, Ok, Err, Option, Result, refl, ap, ◌∙◌, arith, eq-eqb}
use Rattle.refusal.specs.declared.fault.Fault.{Fault}
use Rattle.kind.specs.Kinds.{Laws, Checked}
use Rattle.kinds.specs.declared.layers.Either.{Either}
use Rattle.kinds.specs.declared.layers.Either.TheVariants.{First, Second}
use Rattle.kinds.specs.Bytes.{gate}
use Rattle.kinds.specs.Layers.{either, pick_second}

module _ {V W : Type 0} (w : ℕ) (f : List ℕ → Option V) (g : List ℕ → Option W) (s : List ℕ) (h : length s ≡ w) where
  -- the first answers
  pub first_read : (v : V) × (f s ≡ Some v) → (v : Either V W) × (either w f g s ≡ Some v)
  first_read p = (First p.0, rw (eq-eqb (length s) w h, p.1) refl)

  -- the second answers where the first does not read
  pub second_checked : f s ≡ None → (r : Result (Unit {0}) Fault) → Checked g s r → Checked (either w f g) s r
  second_checked n (Ok u) p = (Second p.0, rw (eq-eqb (length s) w h, n, p.1) refl)
  second_checked n (Err e) p = (rw (eq-eqb (length s) w h, n, p.0) refl, p.1)

-- bytes that the first reads spell no value of the second
pub taken : {V W : Type 0} {u : ℕ} {g : List ℕ → Option W} (w : ℕ) (f : List ℕ → Option V) → Laws u g → (s p : List ℕ) (v : W) → either w f g s ≡ Some (Second v) → g p ≡ Some v → (x : V) × (f p ≡ Some x) → ⊥
taken {g = g} w f l s p v e h t =
    let q = pick_second (f s) (g s) v (gate (eqb (length s) w) e).1 in
    let a : f p ≡ None = ap f (l.once p s v h q.1) ∙ q.0 in
    let b = t.1 in
    let z : ◌≡◌ {A = ℕ} 0 1 = cc in
    omega arith
