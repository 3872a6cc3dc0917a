-- What is proved once for every book.
use Rattle.std.specs.Prelude.{◌≡◌, ℕ, ◌≤◌, ◌⊎◌, List, length}
use Rattle.book.specs.Meaning.{Meaning}
use Rattle.refusal.specs.declared.fault.Fault.{Fault}
use Rattle.model.specs.declared.area.Area.{Area}
use Rattle.model.specs.Records.{Record, TableRow, ReadsAs}
use Rattle.model.specs.Walks.{Refuses}
use Rattle.model.specs.Ledgers.{Ledger, Stands, LookRefuses}

-- this book reads these bytes as this table
abbrev pub ReadsTable : {V : Type 0} → Meaning V → List ℕ → List (TableRow V) → Type 0
ReadsTable m a t = (l : List Record) × ReadsAs m a l t

-- a walk of these bytes under this book refuses with this fault
abbrev pub WalkRefuses : {V : Type 0} → Meaning V → List ℕ → Fault → Type 0
WalkRefuses m a f = Refuses m 0 0 a f

pub record ReadingLaw {V : Type 0} (m : Meaning V) : Type 0 where
  -- bytes that are not too many read as a table or are refused,
  pub either : (a : List ℕ) → length a ≤ 99996 → ((t : List (TableRow V)) × ReadsTable m a t) ⊎ ((f : Fault) × WalkRefuses m a f)
  -- and never both;
  pub apart : (a : List ℕ) (t : List (TableRow V)) (f : Fault) → ReadsTable m a t → WalkRefuses m a f → ⊥
  -- the table is one,
  pub one_table : (a : List ℕ) (t u : List (TableRow V)) → ReadsTable m a t → ReadsTable m a u → t ≡ u
  -- and so is the fault;
  pub one_fault : (a : List ℕ) (f g : Fault) → WalkRefuses m a f → WalkRefuses m a g → f ≡ g
  -- bytes with the same table are equal.
  pub one_spelling : (a b : List ℕ) (t : List (TableRow V)) → ReadsTable m a t → ReadsTable m b t → a ≡ b

-- A buffer stands for at most one ledger and table.
abbrev pub OneLedger : {V : Type 0} → Meaning V → Type 0
OneLedger {V} m = (buf : List ℕ) (a : Area) (L K : Ledger) (t u : List (TableRow V)) → Stands m buf a L t → Stands m buf a K u → (L ≡ K) × (t ≡ u)

-- What stands for a ledger is not refused.
abbrev pub NeverBoth : {V : Type 0} → Meaning V → Type 0
NeverBoth {V} m = (buf : List ℕ) (a : Area) (L : Ledger) (t : List (TableRow V)) (f : Fault) → Stands m buf a L t → LookRefuses m buf a f → ⊥

-- It is refused in one way.
abbrev pub OneFault : {V : Type 0} → Meaning V → Type 0
OneFault m = (buf : List ℕ) (a : Area) (f g : Fault) → LookRefuses m buf a f → LookRefuses m buf a g → f ≡ g

pub record LookingLaw {V : Type 0} (m : Meaning V) : Type 0 where
  pub one_ledger : OneLedger m
  pub never_both : NeverBoth m
  pub one_fault : OneFault m
