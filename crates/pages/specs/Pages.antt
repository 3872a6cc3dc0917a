-- Worked pages: what the issued book reads in some bytes, and what it refuses, as one list.
use Rattle.std.specs.Prelude.{◌≡◌, ℕ, cond, List, [], ◌∷◌, ◌++◌, map, take, replicate, Some, None, codes, Option, ◌≢◌}
use Rattle.std.specs.Str.{bytes_eq}
use Rattle.refusal.specs.declared.fault.Cause.TheVariants.{CutOff, BadLength}
use Rattle.refusal.specs.declared.fault.Fault.{Fault}
use Rattle.refusal.specs.Faults.{fault}
use Rattle.model.specs.Records.{Record, TableRow, ReadsAs}
use Rattle.model.specs.Walks.{Refuses}
use Rattle.area.specs.declared.answer.Entry.{Entry}
use Rattle.area.specs.Finding.{names}
use Rattle.area.specs.Listing.{entry, listing}
use Rattle.rows.specs.Sensors.{is_sensor}
use Rattle.rows.specs.Slots.{Seen}
use Rattle.issued.specs.Published.{Field}
use Rattle.issued.specs.Meant.{issued, fields_of}

-- Some bytes of a record before the field of this name: spaces, but for the sensor's type.
abbrev pub before : List Field → List ℕ → List ℕ → List ℕ
before [] name sensor = []
before (f ∷ fs) name sensor = cond (bytes_eq f.name name) [] (cond (is_sensor f.row.kind) sensor (replicate f.row.width 32) ++ before fs name sensor)

-- what the issued book reads in a spelling of the field of this tag and name, behind this sensor type
abbrev pub reading : List ℕ → List ℕ → List ℕ → List ℕ → Option Seen
reading tag name sensor s = issued.reads tag (before (fields_of tag) name sensor) s

pub data Page : Type 0 where
  -- these bytes read as these records, whose fields have these numbers, places and widths
  area : List ℕ → List Record → List Entry → Page
  -- a walk of these bytes refuses with this fault
  refused : List ℕ → Fault → Page
  -- the field of this tag and name, behind this sensor type, reads the spelling, or does not
  reads : List ℕ → List ℕ → List ℕ → List ℕ → Page
  unread : List ℕ → List ℕ → List ℕ → List ℕ → Page
  -- the spelling is read as absent
  absent : List ℕ → List ℕ → List ℕ → List ℕ → Page
  -- the two spellings read, as different values
  differ : List ℕ → List ℕ → List ℕ → List ℕ → List ℕ → Page

abbrev pub Holds : Page → Type 0
Holds (area bytes l es) = (t : List (TableRow Seen)) × ReadsAs issued bytes l t × (listing 0 0 l (map (λ r. names r.fields) t) ≡ es)
Holds (refused bytes f) = Refuses issued 0 0 bytes f
Holds (reads tag name sensor s) = (v : Seen) × (reading tag name sensor s ≡ Some v)
Holds (unread tag name sensor s) = reading tag name sensor s ≡ None
Holds (absent tag name sensor s) = reading tag name sensor s ≡ Some None
Holds (differ tag name sensor s t) = (v w : Seen) × (reading tag name sensor s ≡ Some v) × (reading tag name sensor t ≡ Some w) × (v ≢ w)

abbrev pub AllHold : List Page → Type 0
AllHold [] = Unit {0}
AllHold (p ∷ ps) = Holds p × AllHold ps

abbrev pub hello : List ℕ
hello = codes "HELLO 00003abc"

-- one record, whose one field has the bytes abc
abbrev pub hello_record : Record
hello_record = record { tag = codes "HELLO "; spellings = codes "abc" ∷ [] }

-- it is field 0 of record 0, with name number 0, at place 11, three bytes wide
abbrev pub hello_field : Entry
hello_field = entry 0 0 0 11 3

abbrev aimidb : List ℕ
aimidb = codes "AIMIDB"

abbrev acftb : List ℕ
acftb = codes "ACFTB "

-- a sensor type of radar, and one of a video frame
abbrev sar : List ℕ
sar = codes "SAR "

abbrev video : List ℕ
video = codes "VFFR"

abbrev pub pages : List Page
pages =
    area [] [] []
    ∷ area hello (hello_record ∷ []) (hello_field ∷ [])
    ∷ refused (take 13 hello) (fault CutOff 0 0 0)
    ∷ refused (codes "HELLO 00000") (fault BadLength 6 0 0)
    ∷ reads acftb (codes "ENTELV") sar (codes "-01000")
    ∷ unread acftb (codes "ENTELV") sar (codes "-01001")
    ∷ unread acftb (codes "ENTELV") sar (codes "-00000")
    ∷ reads aimidb (codes "LOCATION") [] (codes "8959N17959E")
    ∷ unread aimidb (codes "LOCATION") [] (codes "9000N00000E")
    ∷ differ acftb (codes "LOC_ACCY") sar (codes "000.00") (codes "000000")
    ∷ absent aimidb (codes "REPLAY") [] (codes "   ")
    ∷ reads aimidb (codes "FLIGHT_NO") [] (codes "A1")
    ∷ unread aimidb (codes "FLIGHT_NO") [] (codes "A0")
    ∷ reads acftb (codes "MTI_TOT") sar (codes "001")
    ∷ unread acftb (codes "MTI_TOT") video (codes "001")
    ∷ []
