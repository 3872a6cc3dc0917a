-- How wide the data of a record is, and what its fields are called.
use Rattle.std.specs.Prelude.{◌≡◌, ℕ, zero, suc, List, [], ◌∷◌, length, Some, None, Option}
use Rattle.std.specs.Borrow.{Bor}
use Rattle.std.specs.List.{sum_by}
use Rattle.issued.specs.Published.{Field, aimidb, stdidc, acftb}
use Rattle.rows.specs.declared.row.Row.{Row}
use Rattle.issued.specs.Meant.{rows_in}

abbrev pub total : List Row → ℕ
total rows = sum_by (λ r. r.width) rows

-- 18, 18 and 28 fields, together 89, 89 and 207 bytes wide
pub record Counted : Type 0 where
  pub fields : (length aimidb ≡ 18) × (length stdidc ≡ 18) × (length acftb ≡ 28)
  pub bytes : (total (rows_in aimidb) ≡ 89) × (total (rows_in stdidc) ≡ 89) × (total (rows_in acftb) ≡ 207)

-- the name of the field with this number
abbrev pub named : List Field → ℕ → Option (List ℕ)
named [] n = None
named (f ∷ fs) zero = Some f.name
named (f ∷ fs) (suc n) = named fs n

abbrev pub names : List Field → List (List ℕ)
names [] = []
names (f ∷ fs) = f.name ∷ names fs

-- what lent texts hold
abbrev pub texts : List (Bor (List ℕ)) → List (List ℕ)
texts [] = []
texts (t ∷ ts) = t.now ∷ texts ts
