-- A kind whose values are made of another's, where some parts make none.
use Rattle.std.specs.Prelude.{◌≡◌, ℕ, List, Some, None, Ok, Err, Option, Result, refl}
use Rattle.std.proofs.Common.{sym, ◌∙◌, ap}
use Rattle.refusal.specs.declared.fault.Fault.{Fault}
use Rattle.kind.specs.Kinds.{Laws, Spelled}
use Rattle.kind.specs.Options.{never}

abbrev pub chain : {V U : Type 0} → Option V → (V → Option U) → Option U
chain None h = None
chain (Some v) h = h v

-- what f reads, made into another value
abbrev pub via : {V U : Type 0} → (V → Option U) → (List ℕ → Option V) → List ℕ → Option U
via h f s = chain (f s) h

pub chain_is : {V U : Type 0} (x : Option V) (h : V → Option U) (u : U) → chain x h ≡ Some u → (v : V) × (x ≡ Some v) × (h v ≡ Some u)
chain_is None h u e = never e
chain_is (Some v) h u e = (v, refl, e)

-- no two parts make one value
abbrev pub Apart : {V U : Type 0} → (V → Option U) → Type 0
Apart {V} {U} h = (a b : V) (u : U) → h a ≡ Some u → h b ≡ Some u → a ≡ b

pub via_laws : {V U : Type 0} {w : ℕ} {f : List ℕ → Option V} (h : V → Option U) → Apart h → Laws w f → Laws w (via h f)
via_laws {f = f} h one k = record {
  low = k.low;
  high = k.high;
  sized = λ s u e. let x = chain_is (f s) h u e in k.sized s x.0 x.1;
  once = λ s t u a b.
      let x = chain_is (f s) h u a in
      let y = chain_is (f t) h u b in
      k.once s t x.0 x.1 (y.1 ∙ ap Some (sym (one x.0 y.0 u x.2 y.2)));
}

-- reading: nothing is made of what does not read, and else what the rule makes
pub via_none : {V U : Type 0} (h : V → Option U) (f : List ℕ → Option V) (s : List ℕ) → f s ≡ None → via h f s ≡ None
via_none h f s e = rw e refl

pub via_some : {V U : Type 0} (h : V → Option U) (f : List ℕ → Option V) (s : List ℕ) (v : V) → f s ≡ Some v → via h f s ≡ h v
via_some h f s v e = rw e refl

-- spelling a value by the parts that it is made of
pub via_spelled : {V U : Type 0} (h : V → Option U) → Apart h → (f : List ℕ → Option V) (v : V) (u : U) (old new : List ℕ) (r : Result (Unit {0}) Fault) → h v ≡ Some u → Spelled f v old new r → Spelled (via h f) u old new r
via_spelled h one f v u old new (Ok t) e p = via_some h f new v p ∙ e
via_spelled h one f v u old new (Err t) e p = (p.0, p.1, λ s l q. let x = chain_is (f s) h u q in p.2 s l (x.1 ∙ ap Some (one x.0 v u x.2 e)))
