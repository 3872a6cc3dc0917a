-- Spelling a plain value by the value that it stands for.
use Rattle.std.proofs.Common.{◌≡◌, ℕ, List, Some, None, Ok, Err, Option, Result, sym, ap, ◌∙◌}
use Rattle.std.specs.Option.{ok_or}
use Rattle.refusal.specs.declared.fault.Fault.{Fault}
use Rattle.kind.specs.Kinds.{Spelled}
use Rattle.kind.specs.Options.{never}
use Rattle.fields.specs.Stripping.{Strips}
use Rattle.fields.specs.Tagged.{lifted, tagged, lifted_is}

-- what a refusal is that is handed out for none
pub refused_with : {T : Type 0} (x : Option T) (e f : Fault) → x ≡ None → Err e ≡ ok_or x f → e ≡ f
refused_with {T} x e f z v = let h : ◌≡◌ {A = Result T Fault} (Err e) (Err f) = v ∙ ap (λ y. ok_or y f) z in cc

module _ {V P : Type 0} {strip : V → P} {full : P → Option V} (k : Strips strip full) (f : List ℕ → Option V) where
  -- bytes that read as the plain value read as the value
  full_is : (s : List ℕ) (p : P) → tagged strip f s ≡ Some p → full p ≡ f s
  full_is s p e = let x = lifted_is strip (f s) p e in ap full (sym x.2) ∙ k.back x.0 ∙ sym x.1

  pub strips_none : (s : List ℕ) (p : P) → full p ≡ None → tagged strip f s ≡ Some p → ⊥
  strips_none s p n e = let x = lifted_is strip (f s) p e in never (sym n ∙ full_is s p e ∙ x.1)

  pub strips_spelled : (p : P) (v : V) (old new : List ℕ) (r : Result (Unit {0}) Fault) → full p ≡ Some v → Spelled f v old new r → Spelled (tagged strip f) p old new r
  strips_spelled p v old new (Ok u) e h = ap (lifted strip) h ∙ ap Some (sym (k.of p v e))
  strips_spelled p v old new (Err x) e h = (h.0, h.1, λ s l q. h.2 s l (sym (full_is s p q) ∙ e))
