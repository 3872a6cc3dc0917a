-- Compounds whose values are seen as the pieces that they are built of.
use Rattle.std.specs.Prelude.{◌≡◌, ℕ, List, Some, None, Option, refl}
use Rattle.kind.specs.Kinds.{Laws}
use Rattle.kind.specs.Naming.{built}
use Rattle.kind.specs.Options.{some_is}
use Rattle.kind.specs.Compounds.{Composed}

built_same : {V : Type 0} (x : Option V) → x ≡ built (λ v. Some v) x
built_same None = refl
built_same (Some v) = refl

pub composed_of_itself : {V : Type 0} {w : ℕ} {reads : List ℕ → Option V} → Laws w reads → Composed w (λ v. Some v) (λ v. v) reads reads
composed_of_itself {reads = reads} l = record {
  laws = l;
  builds = record { same = λ s. built_same (reads s); of = λ p v e. some_is e; back = λ v. refl };
  whole = λ s p e. (p, refl);
}
