-- What a book means: which tags it knows, what it asks for next, what a spelling reads as.
use Rattle.std.specs.Prelude.{◌≡◌, ℕ, ◌≤◌, Bool, true, List, [], Some, None, Option, ◌≢◌}
use Rattle.book.specs.declared.field.Field.{Field}

-- a field asked for, by its name number and its width
abbrev pub field : ℕ → ℕ → Field
field n w = record { name = n; width = w }

-- All answers rest on the tag and the bytes passed alone.
pub record Meaning (V : Type 0) : Type 0 where
  pub knows : List ℕ → Bool
  -- by tag and passed bytes: the next field, or none where the record is done
  pub asks : List ℕ → List ℕ → Option Field
  -- by tag and passed bytes: what the next field's spelling reads as
  pub reads : List ℕ → List ℕ → List ℕ → Option V

-- What every book owes.
pub record Laws {V : Type 0} (m : Meaning V) : Type 0 where
  -- a field is 1 to 999 bytes wide
  pub wide : (tag p : List ℕ) (n w : ℕ) → m.asks tag p ≡ Some (field n w) → (1 ≤ w) × (w ≤ 999)
  -- no record is done at once
  pub first : (tag : List ℕ) → m.knows tag ≡ true → m.asks tag [] ≢ None
  -- two spellings with one value are equal
  pub once : (tag p s t : List ℕ) (v : V) → m.reads tag p s ≡ Some v → m.reads tag p t ≡ Some v → s ≡ t
