-- Kinds made up of others.
use Rattle.std.specs.Prelude.{◌≡◌, ℕ, List, Some, None, Option, refl}
use Rattle.std.proofs.Common.{sym, ◌∙◌, ap}
use Rattle.kind.specs.Kinds.{Laws}
use Rattle.kind.specs.Naming.{Names, named, Builds, built, builds_laws}
use Rattle.kind.specs.Options.{some_is}

-- A kind of the width w reads just the spellings of the width u that the reading g has, and its values stand for the same pieces.
pub record Agrees {A B P : Type 0} (w : ℕ) (view : A → B) (f : List ℕ → Option B) (u : ℕ) (seen : A → P) (g : List ℕ → Option P) : Type 0 where
  pub wide : w ≡ u
  pub reads : (s : List ℕ) (a : A) → f s ≡ Some (view a) → g s ≡ Some (seen a)
  pub spells : (s : List ℕ) (a : A) → g s ≡ Some (seen a) → f s ≡ Some (view a)
  pub none : (s : List ℕ) → f s ≡ None → g s ≡ None
  pub some : (s : List ℕ) (b : B) → f s ≡ Some b → (p : P) × (g s ≡ Some p)

-- What a compound owes: the laws of what its parts read, values built of it and split into it again, and a value of whatever they read.
pub record Composed {P V : Type 0} (w : ℕ) (make : P → Option V) (parts : V → P) (below : List ℕ → Option P) (reads : List ℕ → Option V) : Type 0 where
  pub laws : Laws w below
  pub builds : Builds make parts below reads
  pub whole : (s : List ℕ) (p : P) → below s ≡ Some p → (v : V) × (make p ≡ Some v)

pub composed_laws : {P V : Type 0} {w : ℕ} {make : P → Option V} {parts : V → P} {below : List ℕ → Option P} {reads : List ℕ → Option V} → Composed w make parts below reads → Laws w reads
composed_laws c = builds_laws c.builds c.laws

named_built : {P V : Type 0} (made : P → V) (x : Option P) → named made x ≡ built (λ p. Some (made p)) x
named_built made None = refl
named_built made (Some p) = refl

-- where values and their parts are one to one, all parts make a value
pub names_composed : {P V : Type 0} {w : ℕ} {made : P → V} {parts : V → P} {below : List ℕ → Option P} {reads : List ℕ → Option V} → Names made parts below reads → Laws w below → Composed w (λ p. Some (made p)) parts below reads
names_composed {made = made} {parts = parts} {below = below} n l = record {
  laws = l;
  builds = record {
    same = λ s. n.same s ∙ named_built made (below s);
    of = λ p v e. sym (n.there p) ∙ ap parts (some_is e);
    back = λ v. ap Some (n.back v);
  };
  whole = λ s p e. (made p, refl);
}
