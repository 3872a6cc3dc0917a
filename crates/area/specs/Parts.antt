-- How the fields of a record are gone over.
use Rattle.std.specs.Prelude.{◌≡◌, ℕ, ◌+◌, ◌≤◌, true, false, List, ◌++◌, length, take, Some, None, Option}
use Rattle.book.specs.Meaning.{Meaning, field}
use Rattle.model.specs.Records.{TableField, joined}
use Rattle.area.specs.declared.part.Part.{Part}
use Rattle.area.specs.Finding.{Holds, Parted, names}

module _ {V M : Type 0} (m : Meaning V) (stands : List ℕ → List ℕ → M → Type 0) where
  -- a mark behind the passed bytes p, and none if the tag is unknown
  abbrev pub Marked : List ℕ → List ℕ → Option M → Type 0
  Marked tag p None = m.knows tag ≡ false
  Marked tag p (Some mark) = (m.knows tag ≡ true) × stands tag p mark

  -- the field that the bytes begin with, and the mark behind it
  pub record Taken (tag p rest : List ℕ) (n w : ℕ) (new : Option M) : Type 0 where
    pub fits : w ≤ length rest
    pub known : m.knows tag ≡ true → m.asks tag p ≡ Some (field n w)
    pub lump : m.knows tag ≡ false → (n ≡ 0) × (w ≡ length rest) × (1 ≤ w)
    pub marked : Marked tag (p ++ take w rest) new

  -- the bytes do not begin with a field
  pub record Stuck (tag p rest : List ℕ) : Type 0 where
    pub known : m.knows tag ≡ true → (n w : ℕ) → m.asks tag p ≡ Some (field n w) → w ≤ length rest → m.reads tag p (take w rest) ≡ None
    pub lump : m.knows tag ≡ false → length rest ≡ 0

  abbrev pub Takes : Option M → Option M → List ℕ → Option (ℕ × ℕ) → Type 0
  Takes old new rest None = (tag p : List ℕ) → Marked tag p old → Stuck tag p rest
  Takes old new rest (Some x) = (tag p : List ℕ) → Marked tag p old → Taken tag p rest x.0 x.1 new

-- the fields with these spellings are left from number i on, which is at this place
pub record Ahead (ss : List (List ℕ)) (i at : ℕ) : Type 0 where
  pub few : i ≤ length ss
  pub place_is : at ≡ length (joined (take i ss))

-- a step from field i at one place to field j at another takes a field of a record with this tag and data
pub record Steps {V : Type 0} (m : Meaning V) (tag d : List ℕ) (i at : ℕ) (x : Part) (j to : ℕ) : Type 0 where
  pub number_is : x.number ≡ i
  pub start_is : x.start ≡ at
  pub one : j ≡ i + 1
  pub size : to ≡ at + x.width
  pub some : 1 ≤ x.width
  pub inside : to ≤ length d
  pub told : (ss : List (List ℕ)) (fs : List (TableField V)) → Holds m tag d ss fs → Ahead ss i at → Parted ss (names fs) x.number x × Ahead ss j to

abbrev pub Onward : {V : Type 0} → Meaning V → List ℕ → List ℕ → ℕ → ℕ → Option Part → ℕ → ℕ → Type 0
Onward m tag d i at None j to = (ss : List (List ℕ)) (fs : List (TableField _)) → Holds m tag d ss fs → Ahead ss i at → length ss ≤ i
Onward m tag d i at (Some x) j to = Steps m tag d i at x j to
