-- Parts with a start and a width.
use Rattle.std.specs.Prelude.{ℕ, ◌+◌, ◌<◌, ◌≤◌, List, length, slice_index_or}

-- each part begins at or behind the end of those before it
abbrev pub Rising : {X : Type 0} → (X → ℕ) → (X → ℕ) → List X → Type 0
Rising {X} from wide xs = (i j : ℕ) (d : X) → i < j → j < length xs → from (slice_index_or xs i d) + wide (slice_index_or xs i d) ≤ from (slice_index_or xs j d)

-- byte n lies in the part x
abbrev pub Held : {X : Type 0} → (X → ℕ) → (X → ℕ) → ℕ → X → Type 0
Held from wide n x = (from x ≤ n) × (n < from x + wide x)
