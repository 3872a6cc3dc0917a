-- What a row's field reads: absent under Blank, or what its kind says.
use Rattle.std.specs.Prelude.{◌≡◌, ℕ, Bool, true, false, cond, List, Some, Option}
use Rattle.kind.specs.Kinds.{Laws}
use Rattle.kinds.specs.Layers.{blank, blank_laws, seen_some}
use Rattle.rows.specs.declared.row.Row.{Row}
use Rattle.rows.specs.declared.value.FieldValue.{FieldValue}
use Rattle.rows.specs.Fair.{fair}
use Rattle.rows.specs.Cells.{plain, plain_laws}
use Rattle.rows.specs.Readings.{Reading, reading}
use Rattle.fields.specs.Tagged.{tagged, tagged_laws}

-- a field's value as a reader of contracts sees it: absent, or what its kind reads
abbrev pub Seen : Type 0
Seen = Option Reading

abbrev pub seen : Option FieldValue → Seen
seen = seen_some reading

abbrev pub kind_of : Row → Bool → List ℕ → Option Reading
kind_of r sar = plain r.kind r.width r.low r.high sar

unfoldable pub slot : Row → Bool → List ℕ → Option Seen
slot r sar s = cond r.blank (blank r.width (kind_of r sar) s) (tagged Some (kind_of r sar) s)

pub slot_laws : (r : Row) (sar : Bool) → fair r ≡ true → Laws r.width (slot r sar)
unfolding slot
slot_laws r sar e = go r.blank
  where
    k : Laws r.width (kind_of r sar)
    k = plain_laws r.kind r.width r.low r.high sar e

    go : (b : Bool) → Laws r.width (λ s. cond b (blank r.width (kind_of r sar) s) (tagged Some (kind_of r sar) s))
    go true = blank_laws k
    go false = tagged_laws Some (λ a b e. cc) k
