-- A kind's readings under another name.
use Rattle.std.specs.Prelude.{◌≡◌, ℕ, List, Some, None, Option, refl}
use Rattle.std.proofs.Common.{sym, ◌∙◌, ap}
use Rattle.kind.specs.Kinds.{Laws}
use Rattle.kind.specs.Options.{never}

abbrev pub lifted : {V U : Type 0} → (V → U) → Option V → Option U
lifted h None = None
lifted h (Some v) = Some (h v)

abbrev pub tagged : {V U : Type 0} → (V → U) → (List ℕ → Option V) → List ℕ → Option U
tagged h f s = lifted h (f s)

pub lifted_is : {V U : Type 0} (h : V → U) (x : Option V) (u : U) → lifted h x ≡ Some u → (v : V) × (x ≡ Some v) × (h v ≡ u)
lifted_is h None u e = never e
lifted_is h (Some v) u e = (v, refl, cc)

pub tagged_laws : {V U : Type 0} {w : ℕ} {f : List ℕ → Option V} (h : V → U) → ((a b : V) → h a ≡ h b → a ≡ b) → Laws w f → Laws w (tagged h f)
tagged_laws {f = f} h one k = record {
  low = k.low;
  high = k.high;
  sized = λ s u e. let x = lifted_is h (f s) u e in k.sized s x.0 x.1;
  once = λ s t u a b.
      let x = lifted_is h (f s) u a in
      let y = lifted_is h (f t) u b in
      k.once s t x.0 x.1 (y.1 ∙ ap Some (sym (one x.0 y.0 (x.2 ∙ sym y.2))));
}

-- there is but one value of no content
pub one_unit : {P : Type 0} (a b : Unit {0}) → P → a ≡ b
one_unit a b e = refl
