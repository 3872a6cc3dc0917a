-- What the issued book means by its tables.
use Rattle.std.specs.Prelude.{◌≡◌, ℕ, ◌+◌, ◌-◌, Bool, false, cond, ◌||◌, ◌≤◌, List, [], ◌∷◌, ◌++◌, take, drop, Some, None, Ok, Err, codes, Option, Result, ◌==◌, nat_lt, slice_index_or}
use Rattle.std.specs.Str.{bytes_eq}
use Rattle.refusal.specs.declared.fault.Fault.{Fault}
use Rattle.refusal.specs.Faults.{unread}
use Rattle.book.specs.Meaning.{Meaning, field as asking}
use Rattle.book.specs.declared.field.Field.{Field as Asking}
use Rattle.rows.specs.declared.code.Code.TheVariants.{Figure}
use Rattle.rows.specs.declared.code.FigureCode.TheVariants.{Number}
use Rattle.rows.specs.declared.row.Row.{Row}
use Rattle.rows.specs.Sensors.{flag}
use Rattle.rows.specs.Slots.{Seen, slot}
use Rattle.issued.specs.declared.mark.Mark.{Mark}
use Rattle.issued.specs.declared.row_number.RowNumber.{RowNumber}
use Rattle.issued.specs.declared.tag.Tag.{Tag}
use Rattle.issued.specs.declared.tag.Tag.TheVariants as tags
use Rattle.issued.specs.Published.{Field, field, aimidb, stdidc, acftb, published}

abbrev pub is_aimidb : List ℕ → Bool
is_aimidb tag = bytes_eq tag (codes "AIMIDB")

abbrev pub is_stdidc : List ℕ → Bool
is_stdidc tag = bytes_eq tag (codes "STDIDC")

abbrev pub is_acftb : List ℕ → Bool
is_acftb tag = bytes_eq tag (codes "ACFTB ")

-- the fields of a tag, none for a tag that is not known
abbrev pub fields_of : List ℕ → List Field
fields_of tag = cond (is_aimidb tag) aimidb (cond (is_stdidc tag) stdidc (cond (is_acftb tag) acftb []))

-- what is left of a record: its fields, and whether SAR was read
pub record Left : Type 0 where
  pub fields : List Field
  pub sar : Bool

-- what is left behind the bytes p
abbrev pub after : List Field → Bool → List ℕ → Left
after [] sar p = record { fields = []; sar = sar }
after (f ∷ fs) sar [] = record { fields = f ∷ fs; sar = sar }
after (f ∷ fs) sar (x ∷ p) = after fs (flag f.row.kind sar (take f.row.width (x ∷ p))) (drop f.row.width (x ∷ p))

abbrev pub asked : List Field → Option Asking
asked [] = None
asked (f ∷ fs) = Some (asking f.number f.row.width)

abbrev pub read_at : List Field → Bool → List ℕ → Option Seen
read_at [] sar s = None
read_at (f ∷ fs) sar s = slot f.row sar s

abbrev pub issued : Meaning Seen
issued = record {
  knows = λ tag. is_aimidb tag || (is_stdidc tag || is_acftb tag);
  asks = λ tag p. asked (after (fields_of tag) false p).fields;
  reads = λ tag p s. read_at (after (fields_of tag) false p).fields (after (fields_of tag) false p).sar s;
}

-- The table that the code keeps: the rows of the three tags one behind another.
abbrev pub none : Field
none = field "" 0 (Figure Number) 0 0 false 0

abbrev pub field_at : ℕ → Field
field_at i = slice_index_or published i none

abbrev pub row_at : ℕ → Row
row_at i = (field_at i).row

abbrev pub rows_in : List Field → List Row
rows_in [] = []
rows_in (f ∷ fs) = f.row ∷ rows_in fs

-- the tag that is written so, if it is known
abbrev pub tag_of : List ℕ → Option Tag
tag_of tag = cond (is_aimidb tag) (Some tags.Aimidb) (cond (is_stdidc tag) (Some tags.Stdidc) (cond (is_acftb tag) (Some tags.Acftb) None))

abbrev pub fields_in : Tag → List Field
fields_in tags.Aimidb = aimidb
fields_in tags.Stdidc = stdidc
fields_in tags.Acftb = acftb

-- a tag's first row, and the row past its last
abbrev pub first_of : Tag → ℕ
first_of tags.Aimidb = 0
first_of tags.Stdidc = 18
first_of tags.Acftb = 36

abbrev pub past_of : Tag → ℕ
past_of tags.Aimidb = 18
past_of tags.Stdidc = 36
past_of tags.Acftb = 64

-- the tag that row i belongs to
abbrev pub tag_at : ℕ → Tag
tag_at i = cond (nat_lt i 18) tags.Aimidb (cond (nat_lt i 36) tags.Stdidc tags.Acftb)

-- row i is in the table, or nothing reads there
abbrev pub Placed : ℕ → Result RowNumber Fault → Type 0
Placed i (Ok n) = n.i ≡ i
Placed i (Err e) = (64 ≤ i) × (e ≡ unread)

-- the row past the last of row i's tag
abbrev pub end_of : ℕ → ℕ
end_of i = cond (nat_lt i 18) 18 (cond (nat_lt i 36) 36 64)

-- the row after row i, or 64 past a tag's last
abbrev pub next_of : ℕ → ℕ
next_of i = cond (i + 1 == end_of i) 64 (i + 1)

-- the fields from row i to the last of its tag
abbrev pub ahead : ℕ → List Field
ahead i = take (end_of i - i) (drop i published)

-- a mark stands where what is left is the fields from its row on, with its flag
abbrev pub Stands : List ℕ → List ℕ → Mark → Type 0
Stands tag p m = (s : List ℕ) → after (fields_of tag) false (p ++ s) ≡ after (ahead m.row) m.sar s
