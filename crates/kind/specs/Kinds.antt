-- What every kind owes: what it reads, and its two laws.
use Rattle.std.specs.Prelude.{◌≡◌, ℕ, ◌≤◌, List, length, Some, None, Ok, Err, Option, Result, ◌≢◌}
use Rattle.refusal.specs.declared.fault.Fault.{Fault}
use Rattle.refusal.specs.Faults.{unread}

-- a width from 1 to 999, which every spelling that reads has, and one spelling for a value
pub record Laws {V : Type 0} (w : ℕ) (reads : List ℕ → Option V) : Type 0 where
  pub low : 1 ≤ w
  pub high : w ≤ 999
  pub sized : (s : List ℕ) (v : V) → reads s ≡ Some v → length s ≡ w
  pub once : (s t : List ℕ) (v : V) → reads s ≡ Some v → reads t ≡ Some v → s ≡ t

-- the value that the bytes s read as, or refusal 5 where they do not read
abbrev pub Told : {A V : Type 0} → (A → V) → (List ℕ → Option V) → List ℕ → Result A Fault → Type 0
Told view reads s (Ok a) = reads s ≡ Some (view a)
Told view reads s (Err e) = (reads s ≡ None) × (e ≡ unread)

-- the same with no value made
abbrev pub Checked : {V : Type 0} → (List ℕ → Option V) → List ℕ → Result (Unit {0}) Fault → Type 0
Checked {V} reads s (Ok u) = (v : V) × (reads s ≡ Some v)
Checked reads s (Err e) = (reads s ≡ None) × (e ≡ unread)

-- What spelling the value v over the bytes old does: it gives bytes that read as v, or refuses and changes nothing, where no bytes of that length do.
abbrev pub Spelled : {V : Type 0} → (List ℕ → Option V) → V → List ℕ → List ℕ → Result (Unit {0}) Fault → Type 0
Spelled reads v old new (Ok u) = reads new ≡ Some v
Spelled reads v old new (Err e) = (e ≡ unread) × (new ≡ old) × ((s : List ℕ) → length s ≡ length old → reads s ≢ Some v)

abbrev pub served : Result (Unit {0}) Fault
served = Ok tt

-- The two laws of a kind. Two spellings with one value are equal. Spelling a value over bytes of the width gives the bytes that read as it,
-- or refusal 5 exactly when no bytes do.
pub record TwoLaws {V : Type 0} (w : ℕ) (reads : List ℕ → Option V) : Type 0 where
  pub one : (s t : List ℕ) (v : V) → reads s ≡ Some v → reads t ≡ Some v → s ≡ t
  pub gives : (v : V) (old new s : List ℕ) → length old ≡ w → Spelled reads v old new served → reads s ≡ Some v → new ≡ s
  pub refuses : (v : V) (old new : List ℕ) (e : Fault) → length old ≡ w → Spelled reads v old new (Err e) → (e ≡ unread) × (new ≡ old) × ((s : List ℕ) → reads s ≢ Some v)
