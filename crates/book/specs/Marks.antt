-- How a book answers by a mark: as by the tag and the bytes passed.
use Rattle.std.specs.Prelude.{◌≡◌, ℕ, true, false, List, [], ◌++◌, length, Some, None, Ok, Err, Option, Result}
use Rattle.refusal.specs.declared.fault.Fault.{Fault}
use Rattle.refusal.specs.Faults.{unread}
use Rattle.kind.specs.Kinds.{Told, Spelled}
use Rattle.book.specs.Meaning.{Meaning, field}
use Rattle.book.specs.declared.field.Field.{Field}

module _ {V M : Type 0} (m : Meaning V) (stands : List ℕ → List ℕ → M → Type 0) where
  abbrev pub Started : List ℕ → Option M → Type 0
  Started tag None = m.knows tag ≡ false
  Started tag (Some mark) = (m.knows tag ≡ true) × stands tag [] mark

  abbrev pub Asked : M → Option Field → Type 0
  Asked mark a = (tag p : List ℕ) → stands tag p mark → a ≡ m.asks tag p

  -- behind p the book asks for a field as wide as s
  abbrev pub Fits : List ℕ → List ℕ → List ℕ → Type 0
  Fits tag p s = (n : ℕ) × (m.asks tag p ≡ Some (field n (length s)))

  abbrev pub Passes : List ℕ → List ℕ → List ℕ → M → M → Result (Unit {0}) Fault → Type 0
  Passes tag p s old new (Ok u) = (v : V) × (m.reads tag p s ≡ Some v) × stands tag (p ++ s) new
  Passes tag p s old new (Err e) = (m.reads tag p s ≡ None) × (e ≡ unread) × (new ≡ old)

  abbrev pub Passed : M → M → List ℕ → Result (Unit {0}) Fault → Type 0
  Passed old new s r = (tag p : List ℕ) → stands tag p old → Fits tag p s → Passes tag p s old new r

  abbrev pub Valued : {A : Type 0} → (A → V) → M → List ℕ → Result A Fault → Type 0
  Valued view mark s r = (tag p : List ℕ) → stands tag p mark → Fits tag p s → Told view (m.reads tag p) s r

  abbrev pub Spelling : M → V → List ℕ → List ℕ → Result (Unit {0}) Fault → Type 0
  Spelling mark v old new r = (tag p : List ℕ) → stands tag p mark → Fits tag p old → Spelled (m.reads tag p) v old new r
