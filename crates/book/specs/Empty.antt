-- The book that knows no tag.
use Rattle.std.specs.Prelude.{◌≡◌, ℕ, false, List, None}
use Rattle.std.proofs.Common.{arith}
use Rattle.book.specs.Meaning.{Meaning, Laws}

abbrev pub nothing : Meaning (Unit {0})
nothing = record { knows = λ tag. false; asks = λ tag p. None; reads = λ tag p s. None }

-- there is no record for a mark to stand in
abbrev pub none_stand : List ℕ → List ℕ → Unit {0} → Type 0
none_stand tag p mark = ⊥

clash : {P : Type 0} → ◌≡◌ {A = ℕ} 0 1 → P
clash z = let bad : ⊥ = omega arith in elim bad [ ]

pub empty_laws : Laws nothing
empty_laws = record {
  wide = λ tag p n w e. clash (cc);
  first = λ tag k e. clash (cc);
  once = λ tag p s t v a b. clash (cc);
}
