-- The refusals: the number and the layer of each, and what joins one on its way up.
use Rattle.std.specs.Prelude.{ℕ, Ok, Err, Result}
use Rattle.refusal.specs.declared.fault.Cause.{Cause}
use Rattle.refusal.specs.declared.fault.Cause.TheVariants.{TooLong, CutOff, BadTag, BadLength, Unread, EndsEarly, PastDone, NoSuch, NoRoom, DraftOpen, NoDraft, BadWidth, FewEntries, BadForm}
use Rattle.refusal.specs.declared.fault.Layer.{Layer}
use Rattle.refusal.specs.declared.fault.Layer.TheVariants.{Area, Record, Field, Form}
use Rattle.refusal.specs.declared.fault.Fault.{Fault}

abbrev pub number : Cause → ℕ
number TooLong = 1
number CutOff = 2
number BadTag = 3
number BadLength = 4
number Unread = 5
number EndsEarly = 6
number PastDone = 7
number NoSuch = 8
number NoRoom = 9
number DraftOpen = 10
number NoDraft = 11
number BadWidth = 12
number FewEntries = 13
number BadForm = 14

-- the layer that gives it
abbrev pub layer : Cause → Layer
layer TooLong = Area
layer CutOff = Record
layer BadTag = Record
layer BadLength = Record
layer Unread = Field
layer EndsEarly = Record
layer PastDone = Record
layer NoSuch = Area
layer NoRoom = Area
layer DraftOpen = Area
layer NoDraft = Area
layer BadWidth = Record
layer FewEntries = Area
layer BadForm = Form

-- the number of a layer
abbrev pub layer_number : Layer → ℕ
layer_number Area = 1
layer_number Record = 2
layer_number Field = 3
layer_number Form = 4

-- a refusal with its place, its record and its field
abbrev pub fault : Cause → ℕ → ℕ → ℕ → Fault
fault c place n k = record { cause = c; place = place; «record» = n; field = k }

-- the refusal of a kind that is asked alone
abbrev pub unread : Fault
unread = fault Unread 0 0 0

abbrev pub in_field : Fault → ℕ → ℕ → Fault
in_field f place k = fault f.cause place f.«record» k

abbrev pub in_record : Fault → ℕ → Fault
in_record f n = fault f.cause f.place n f.field

-- what joins the refusal of an outcome, if it is one
abbrev pub fielded : {T : Type 0} → Result T Fault → ℕ → ℕ → Result T Fault
fielded (Ok x) place k = Ok x
fielded (Err f) place k = Err (in_field f place k)

abbrev pub recorded : {T : Type 0} → Result T Fault → ℕ → Result T Fault
recorded (Ok x) n = Ok x
recorded (Err f) n = Err (in_record f n)
