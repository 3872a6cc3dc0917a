-- Values that each have a spelling, and reading one of a list by its spelling.
use Rattle.std.specs.Prelude.{◌≡◌, ℕ, ◌≤◌, Bool, true, false, cond, List, [], ◌∷◌, length, Some, Option, refl}
use Rattle.std.proofs.Common.{sym, ◌∙◌, ap}
use Rattle.std.specs.List.{find}
use Rattle.std.specs.Str.{bytes_eq}
use Rattle.kind.specs.Kinds.{Laws}
use Rattle.kind.specs.Options.{never, some_is}
use Rattle.kinds.specs.Texts.{same_is}

-- spellings of one width, from 1 to 999, no two values with the same
pub record Spelt {V : Type 0} (w : ℕ) (letters : V → List ℕ) : Type 0 where
  pub low : 1 ≤ w
  pub high : w ≤ 999
  pub long : (v : V) → length (letters v) ≡ w
  pub apart : (a b : V) → letters a ≡ letters b → a ≡ b

-- the first value of a list that has the spelling s
abbrev pub listed : {V : Type 0} → (V → List ℕ) → List V → List ℕ → Option V
listed letters vs s = find (λ v. bytes_eq s (letters v)) vs

pub listed_is : {V : Type 0} (letters : V → List ℕ) (vs : List V) (s : List ℕ) (v : V) → listed letters vs s ≡ Some v → s ≡ letters v
listed_is letters [] s v e = never e
listed_is {V} letters (x ∷ vs) s v e =
    let go : (b : Bool) → bytes_eq s (letters x) ≡ b → cond b (Some x) (listed letters vs s) ≡ Some v → s ≡ letters v
    = λ b. elim b as (λ b. bytes_eq s (letters x) ≡ b → cond b (Some x) (listed letters vs s) ≡ Some v → s ≡ letters v) [ true ↦ λ t h. same_is s (letters x) t ∙ ap letters (some_is h) | false ↦ λ t h. listed_is letters vs s v h ] in
    go (bytes_eq s (letters x)) refl e

pub listed_laws : {V : Type 0} {w : ℕ} {letters : V → List ℕ} → Spelt w letters → (vs : List V) → Laws w (listed letters vs)
listed_laws {letters = letters} k vs = record {
  low = k.low;
  high = k.high;
  sized = λ s v e. ap length (listed_is letters vs s v e) ∙ k.long v;
  once = λ s t v e f. listed_is letters vs s v e ∙ sym (listed_is letters vs t v f);
}

-- values that each are found again in a list of all of them have spellings apart
pub apart_in : {V : Type 0} (letters : V → List ℕ) (every : List V) → ((v : V) → listed letters every (letters v) ≡ Some v) → (a b : V) → letters a ≡ letters b → a ≡ b
apart_in letters every found a b e = some_is (sym (found a) ∙ ap (listed letters every) e ∙ found b)
