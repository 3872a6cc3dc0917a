-- Checking, reading and spelling values with names of their own.
use Rattle.std.proofs.Common.{◌≡◌, ℕ, List, Some, Ok, Err, Option, Result, sym, ap, ◌∙◌}
use Rattle.refusal.specs.declared.fault.Fault.{Fault}
use Rattle.kind.specs.Compounds.{Agrees}
use Rattle.kind.specs.Kinds.{Checked, Spelled}
use Rattle.kinds.specs.declared.layers.Either.{Either}
use Rattle.kinds.specs.declared.layers.Either.TheVariants.{First, Second}
use Rattle.kinds.specs.Layers.{seen_either}
use Rattle.kind.specs.Naming.{Names, names_some, names_none, names_is, named, Builds, builds_told, builds_is}

-- a value of one of two kinds stands for itself where theirs do
pub seen : {A B : Type 0} {f : A → A} {g : B → B} → ((a : A) → f a ≡ a) → ((b : B) → g b ≡ b) → (x : Either A B) → seen_either f g x ≡ x
seen h k (First a) = ap First (h a)
seen h k (Second b) = ap Second (k b)

-- a kind of the same readings, whose values stand for themselves
pub agrees : {A : Type 0} {w u : ℕ} {view : A → A} {f g : List ℕ → Option A} → w ≡ u → ((a : A) → view a ≡ a) → ((s : List ℕ) → f s ≡ g s) → Agrees w view f u (λ a. a) g
agrees e v h = record {
  wide = e;
  reads = λ s a r. sym (h s) ∙ r ∙ ap Some (v a);
  spells = λ s a r. h s ∙ r ∙ ap Some (sym (v a));
  none = λ s r. sym (h s) ∙ r;
  some = λ s b r. (b, sym (h s) ∙ r);
}

module _ {P V : Type 0} {made : P → V} {parts : V → P} {below : List ℕ → Option P} {reads : List ℕ → Option V} (k : Names made parts below reads) where
  pub names_checked : (s : List ℕ) (r : Result (Unit {0}) Fault) → Checked below s r → Checked reads s r
  names_checked s (Ok u) p = (made p.0, k.same s ∙ ap (named made) p.1)
  names_checked s (Err e) p = (names_none k s p.0, p.1)

  pub names_told : (s : List ℕ) (p q : P) (v : V) → below s ≡ Some p → p ≡ q → v ≡ made q → reads s ≡ Some v
  names_told s p q v e h m = k.same s ∙ ap (named made) (e ∙ ap Some h) ∙ ap Some (sym m)

  pub names_spelled : (v : V) (p : P) (old new : List ℕ) (r : Result (Unit {0}) Fault) → p ≡ parts v → Spelled below p old new r → Spelled reads v old new r
  names_spelled v p old new (Ok u) h e = names_some k new v (e ∙ ap Some h)
  names_spelled v p old new (Err e) h q = (q.0, q.1, λ s l x. q.2 s l (names_is k s v x ∙ ap Some (sym h)))

module _ {P V : Type 0} {make : P → Option V} {parts : V → P} {below : List ℕ → Option P} {reads : List ℕ → Option V} (k : Builds make parts below reads) where
  pub builds_spelled : (v : V) (p : P) (old new : List ℕ) (r : Result (Unit {0}) Fault) → p ≡ parts v → Spelled below p old new r → Spelled reads v old new r
  builds_spelled v p old new (Ok u) h e = builds_told k new (parts v) (e ∙ ap Some h) ∙ k.back v
  builds_spelled v p old new (Err e) h q = (q.0, q.1, λ s l x. q.2 s l (builds_is k s v x ∙ ap Some (sym h)))
