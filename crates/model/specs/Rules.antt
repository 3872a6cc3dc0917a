-- When a call is refused, and with what: rules in their order, of which the first that applies answers.
use Rattle.std.specs.Prelude.{◌≡◌, ℕ, ◌+◌, ◌⊎◌, List, [], ◌∷◌, length, take, Some, None, Option, slice_index_or}
use Rattle.refusal.specs.declared.fault.Fault.{Fault}
use Rattle.model.specs.Records.{Record, joined, written}
use Rattle.model.specs.Ledgers.{Ledger}

-- a rule: which faults it gives
abbrev pub Rule : Type 1
Rule = Fault → Type 0

-- gives f if the case is met
abbrev pub gives : Fault → Type 0 → Rule
gives f met = λ g. met × (g ≡ f)

-- The first rule that applies refuses; where none does, the call is served.
abbrev pub Refusal : List Rule → Option Fault → Type 0
Refusal [] o = o ≡ None
Refusal (r ∷ rs) o = ((f : Fault) × r f × (o ≡ Some f)) ⊎ (((f : Fault) → r f → ⊥) × Refusal rs o)

abbrev pub nothing : Record
nothing = record { tag = []; spellings = [] }

-- record n, the place where it begins, and the place of its field k
abbrev pub nth : Ledger → ℕ → Record
nth L n = slice_index_or L.records n nothing

abbrev pub begins : Ledger → ℕ → ℕ
begins L n = length (written (take n L.records))

abbrev pub field_at : Ledger → ℕ → ℕ → ℕ
field_at L n k = begins L n + 11 + length (joined (take k (nth L n).spellings))
