-- Values with names of their own, one to one with those of a kind below.
use Rattle.std.specs.Prelude.{◌≡◌, ℕ, List, Some, None, Option, refl}
use Rattle.std.proofs.Common.{sym, ◌∙◌, ap}
use Rattle.kind.specs.Kinds.{Laws}
use Rattle.kind.specs.Options.{never, some_is}

-- the value made of what the kind below reads
abbrev pub named : {P V : Type 0} → (P → V) → Option P → Option V
named made None = None
named made (Some p) = Some (made p)

-- what is read is named, and names and parts are one to one
pub record Names {P V : Type 0} (made : P → V) (parts : V → P) (below : List ℕ → Option P) (reads : List ℕ → Option V) : Type 0 where
  pub same : (s : List ℕ) → reads s ≡ named made (below s)
  pub there : (p : P) → parts (made p) ≡ p
  pub back : (v : V) → made (parts v) ≡ v

module _ {P V : Type 0} {made : P → V} {parts : V → P} {below : List ℕ → Option P} {reads : List ℕ → Option V} (k : Names made parts below reads) where
  -- a value reads where its parts do
  pub names_some : (s : List ℕ) (v : V) → below s ≡ Some (parts v) → reads s ≡ Some v
  names_some s v e = k.same s ∙ ap (named made) e ∙ ap Some (k.back v)

  pub names_none : (s : List ℕ) → below s ≡ None → reads s ≡ None
  names_none s e = k.same s ∙ ap (named made) e

  pub names_is : (s : List ℕ) (v : V) → reads s ≡ Some v → below s ≡ Some (parts v)
  names_is s v e =
      let go : (x : Option P) → named made x ≡ Some v → x ≡ Some (parts v)
      = λ x. elim x as (λ x. named made x ≡ Some v → x ≡ Some (parts v)) [ None ↦ λ h. never h | Some p ↦ λ h. ap Some (sym (k.there p) ∙ ap parts (some_is h)) ] in
      go (below s) (sym (k.same s) ∙ e)

  pub names_laws : {w : ℕ} → Laws w below → Laws w reads
  names_laws l = record {
    low = l.low;
    high = l.high;
    sized = λ s v e. l.sized s (parts v) (names_is s v e);
    once = λ s t v e f. l.once s t (parts v) (names_is s v e) (names_is t v f);
  }

-- the value built of what the kind below reads, where its parts fit together
abbrev pub built : {P V : Type 0} → (P → Option V) → Option P → Option V
built make None = None
built make (Some p) = make p

built_is : {P V : Type 0} (make : P → Option V) (x : Option P) (v : V) → built make x ≡ Some v → (p : P) × (x ≡ Some p) × (make p ≡ Some v)
built_is make None v e = never e
built_is make (Some p) v e = (p, refl, e)

-- What is read is built of parts that not always fit together, each value of its own parts alone.
pub record Builds {P V : Type 0} (make : P → Option V) (parts : V → P) (below : List ℕ → Option P) (reads : List ℕ → Option V) : Type 0 where
  pub same : (s : List ℕ) → reads s ≡ built make (below s)
  pub of : (p : P) (v : V) → make p ≡ Some v → p ≡ parts v
  pub back : (v : V) → make (parts v) ≡ Some v

module _ {P V : Type 0} {make : P → Option V} {parts : V → P} {below : List ℕ → Option P} {reads : List ℕ → Option V} (k : Builds make parts below reads) where
  pub builds_told : (s : List ℕ) (p : P) → below s ≡ Some p → reads s ≡ make p
  builds_told s p e = k.same s ∙ ap (built make) e

  pub builds_none : (s : List ℕ) → below s ≡ None → reads s ≡ None
  builds_none s e = k.same s ∙ ap (built make) e

  pub builds_is : (s : List ℕ) (v : V) → reads s ≡ Some v → below s ≡ Some (parts v)
  builds_is s v e = let x = built_is make (below s) v (sym (k.same s) ∙ e) in x.1 ∙ ap Some (k.of x.0 v x.2)

  pub builds_laws : {w : ℕ} → Laws w below → Laws w reads
  builds_laws l = record {
    low = l.low;
    high = l.high;
    sized = λ s v e. l.sized s (parts v) (builds_is s v e);
    once = λ s t v e f. l.once s t (parts v) (builds_is s v e) (builds_is t v f);
  }
