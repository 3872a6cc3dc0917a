-- Values as plain ones that say as much, where not every plain one stands for a value.
use Rattle.std.specs.Prelude.{◌≡◌, Some, Option}
use Rattle.std.proofs.Common.{sym, ◌∙◌, ap}
use Rattle.kind.specs.Options.{some_is}

-- the value that a plain one stands for, if any, and the plain one of a value
pub record Strips {V P : Type 0} (strip : V → P) (full : P → Option V) : Type 0 where
  pub back : (v : V) → full (strip v) ≡ Some v
  pub of : (p : P) (v : V) → full p ≡ Some v → p ≡ strip v

pub strips_one : {V P : Type 0} {strip : V → P} {full : P → Option V} → Strips strip full → (a b : V) → strip a ≡ strip b → a ≡ b
strips_one {full = full} k a b e = some_is (sym (k.back a) ∙ ap full e ∙ k.back b)
