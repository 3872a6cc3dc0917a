-- Records as a ledger holds them, how they are written, and when a book takes one.
use Rattle.std.specs.Prelude.{◌≡◌, ℕ, ◌+◌, ◌/◌, ◌%◌, ◌<◌, ◌≤◌, true, false, List, [], ◌∷◌, ◌++◌, length, Some, ◌≢◌, slice_index, slice_index_or, None}
use Rattle.book.specs.Meaning.{Meaning, field}

-- a record: its tag, and the spellings of its fields in order
pub record Record : Type 0 where
  pub tag : List ℕ
  pub spellings : List (List ℕ)

-- spellings one behind another
abbrev pub joined : List (List ℕ) → List ℕ
joined [] = []
joined (s ∷ ss) = s ++ joined ss

-- five decimal digits
abbrev pub digits5 : ℕ → List ℕ
digits5 n = (48 + n / 10000 % 10) ∷ (48 + n / 1000 % 10) ∷ (48 + n / 100 % 10) ∷ (48 + n / 10 % 10) ∷ (48 + n % 10) ∷ []

-- a record written out: its tag, how long its data is, and its data
abbrev pub header : List ℕ → ℕ → List ℕ
header tag n = tag ++ digits5 n

unfoldable pub record_of : List ℕ → List ℕ → List ℕ
record_of tag d = header tag (length d) ++ d

abbrev pub written : List Record → List ℕ
written [] = []
written (e ∷ l) = record_of e.tag (joined e.spellings) ++ written l

-- six bytes from 0x20 to 0x7E, the first no space, and after a space only spaces
pub record GoodTag (tag : List ℕ) : Type 0 where
  pub six : length tag ≡ 6
  pub plain : (i : ℕ) → i < 6 → (32 ≤ slice_index tag i) × (slice_index tag i ≤ 126)
  pub first : slice_index_or tag 0 0 ≡ 32 → ⊥
  pub after : (i : ℕ) → i + 1 < 6 → slice_index tag i ≡ 32 → slice_index tag (i + 1) ≡ 32

-- What a field reads as: a value of the book's, or, under a tag that it does not know, the bytes themselves.
pub data Value (V : Type 0) : Type 0 where
  read : V → Value V
  raw : List ℕ → Value V

pub record TableField (V : Type 0) : Type 0 where
  pub name : ℕ
  pub value : Value V

pub record TableRow (V : Type 0) : Type 0 where
  pub tag : List ℕ
  pub fields : List (TableField V)

module _ {V : Type 0} (m : Meaning V) where
  -- behind the bytes p of a record with this tag, each spelling is the next field, and reads
  pub data Fields (tag : List ℕ) : List ℕ → List (List ℕ) → List (TableField V) → Type 0 where
    none : {p : List ℕ} → Fields tag p [] []
    next : {p s : List ℕ} {ss : List (List ℕ)} {n : ℕ} {v : V} {fs : List (TableField V)} → m.asks tag p ≡ Some (field n (length s)) → m.reads tag p s ≡ Some v → Fields tag (p ++ s) ss fs → Fields tag p (s ∷ ss) (record { name = n; value = read v } ∷ fs)

  -- The spellings begin a record with this tag, and read as these fields. Under an unknown tag all the data is one field.
  pub data Begun (tag : List ℕ) : List (List ℕ) → List (TableField V) → Type 0 where
    known : {ss : List (List ℕ)} {fs : List (TableField V)} → m.knows tag ≡ true → Fields tag [] ss fs → Begun tag ss fs
    bare : m.knows tag ≡ false → Begun tag [] []
    lump : {s : List ℕ} → m.knows tag ≡ false → 0 < length s → Begun tag (s ∷ []) (record { name = 0; value = raw s } ∷ [])

  -- behind these spellings the record asks for no more
  pub data Full (tag : List ℕ) (ss : List (List ℕ)) : Type 0 where
    asked : m.knows tag ≡ true → m.asks tag (joined ss) ≡ None → Full tag ss
    filled : m.knows tag ≡ false → 0 < length ss → Full tag ss

  -- behind these spellings the record still asks for a field
  pub data Wanting (tag : List ℕ) (ss : List (List ℕ)) : Type 0 where
    asks : {n w : ℕ} → m.knows tag ≡ true → m.asks tag (joined ss) ≡ Some (field n w) → Wanting tag ss
    empty : m.knows tag ≡ false → length ss ≡ 0 → Wanting tag ss

  -- the next field has another width than s
  pub data Misfits (tag : List ℕ) (ss : List (List ℕ)) (s : List ℕ) : Type 0 where
    width : {n w : ℕ} → m.knows tag ≡ true → m.asks tag (joined ss) ≡ Some (field n w) → (length s ≢ w) → Misfits tag ss s
    empty : m.knows tag ≡ false → length s ≡ 0 → Misfits tag ss s

  -- a record that the book takes, and the row of the table that it is
  pub record Whole (e : Record) (r : TableRow V) : Type 0 where
    pub good : GoodTag e.tag
    pub begun : Begun e.tag e.spellings r.fields
    pub full : Full e.tag e.spellings
    pub short : length (joined e.spellings) ≤ 99985
    pub named : r.tag ≡ e.tag

  pub data AllWhole : List Record → List (TableRow V) → Type 0 where
    none : AllWhole [] []
    more : {e : Record} {r : TableRow V} {l : List Record} {t : List (TableRow V)} → Whole e r → AllWhole l t → AllWhole (e ∷ l) (r ∷ t)

  -- The book reads the bytes as this table: they are records that it takes, one behind another.
  pub record ReadsAs (a : List ℕ) (l : List Record) (t : List (TableRow V)) : Type 0 where
    pub bytes : a ≡ written l
    pub whole : AllWhole l t
    pub within : length a ≤ 99996
