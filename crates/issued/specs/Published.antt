-- The three tables as they are published, field by field in the order of the record.
use Rattle.std.specs.Prelude.{ℕ, ◌+◌, Bool, true, false, List, [], ◌∷◌, ◌++◌, codes}
use Prim.Native.String.{String}
use Rattle.rows.specs.declared.code.Code.{Code}
use Rattle.rows.specs.declared.code.Code.TheVariants.{Figure, Writing, Label, Spot}
use Rattle.rows.specs.declared.code.FigureCode.TheVariants.{Number, Signed, Angle, Accuracy, Spacing, Focal, Total}
use Rattle.rows.specs.declared.code.WritingCode.TheVariants.{Text, MissionName, AircraftMission, Capitals, EndSegment, Spaces, Underscore}
use Rattle.rows.specs.declared.code.LabelCode.TheVariants.{Moment, Minute, Date, MissionNumber, Turn, Replay, Sensor, Version}
use Rattle.rows.specs.declared.code.SpotCode.TheVariants.{Location, Place, LengthUnit, SpacingUnit}
use Rattle.rows.specs.declared.row.Row.{Row}

-- a field's name and row, with its name number in the tag
pub record Field : Type 0 where
  pub number : ℕ
  pub name : List ℕ
  pub row : Row

-- by name, width, kind, lowest and highest number (0 and 0 where the kind has its own range), and whether all spaces stand for none
abbrev pub field : String → ℕ → Code → ℕ → ℕ → Bool → ℕ → Field
field name w k low high blank n = record { number = n; name = codes name; row = record { width = w; kind = k; low = low; high = high; blank = blank } }

abbrev must : Bool
must = false

-- may be all spaces
abbrev may : Bool
may = true

-- name numbers are counted within a tag
abbrev numbered : ℕ → List (ℕ → Field) → List Field
numbered n [] = []
numbered n (f ∷ fs) = f n ∷ numbered (n + 1) fs

-- AIMIDB, additional image id
unfoldable pub aimidb : List Field
aimidb = numbered 0 (
    field "ACQUISITION_DATE" 14 (Label Moment) 0 0 must
    ∷ field "MISSION_NO" 4 (Label MissionNumber) 0 0 must
    ∷ field "MISSION_IDENTIFICATION" 10 (Writing MissionName) 0 0 must
    ∷ field "FLIGHT_NO" 2 (Label Turn) 0 9 must
    ∷ field "OP_NUM" 3 (Figure Number) 0 999 must
    ∷ field "CURRENT_SEGMENT" 2 (Writing Capitals) 0 0 must
    ∷ field "REPRO_NUM" 2 (Figure Number) 0 99 must
    ∷ field "REPLAY" 3 (Label Replay) 0 0 may
    ∷ field "(reserved-001)" 1 (Writing Spaces) 0 0 must
    ∷ field "START_TILE_COLUMN" 3 (Figure Number) 1 99 must
    ∷ field "START_TILE_ROW" 5 (Figure Number) 1 99999 must
    ∷ field "END_SEGMENT" 2 (Writing EndSegment) 0 0 must
    ∷ field "END_TILE_COLUMN" 3 (Figure Number) 1 99 must
    ∷ field "END_TILE_ROW" 5 (Figure Number) 1 99999 must
    ∷ field "COUNTRY" 2 (Writing Capitals) 0 0 may
    ∷ field "(reserved-002)" 4 (Writing Spaces) 0 0 must
    ∷ field "LOCATION" 11 (Spot Location) 0 0 may
    ∷ field "(reserved-003)" 13 (Writing Spaces) 0 0 must
    ∷ [])

-- STDIDC, standard id
unfoldable pub stdidc : List Field
stdidc = numbered 0 (
    field "ACQUISITION_DATE" 14 (Label Moment) 0 0 must
    ∷ field "MISSION" 14 (Writing Text) 0 0 must
    ∷ field "PASS" 2 (Label Turn) 1 99 must
    ∷ field "OP_NUM" 3 (Figure Number) 0 999 must
    ∷ field "START_SEGMENT" 2 (Writing Capitals) 0 0 must
    ∷ field "REPRO_NUM" 2 (Figure Number) 0 99 must
    ∷ field "REPLAY_REGEN" 3 (Writing Text) 0 0 must
    ∷ field "BLANK_FILL" 1 (Writing Underscore) 0 0 may
    ∷ field "START_COLUMN" 3 (Figure Number) 1 999 must
    ∷ field "START_ROW" 5 (Figure Number) 1 99999 must
    ∷ field "END_SEGMENT" 2 (Writing Capitals) 0 0 must
    ∷ field "END_COLUMN" 3 (Figure Number) 1 999 must
    ∷ field "END_ROW" 5 (Figure Number) 1 99999 must
    ∷ field "COUNTRY" 2 (Writing Capitals) 0 0 may
    ∷ field "WAC" 4 (Figure Number) 1 1866 may
    ∷ field "LOCATION" 11 (Spot Location) 0 0 must
    ∷ field "reserved" 5 (Writing Spaces) 0 0 must
    ∷ field "reserved" 8 (Writing Spaces) 0 0 must
    ∷ [])

-- ACFTB, aircraft information
unfoldable pub acftb : List Field
acftb = numbered 0 (
    field "AC_MSN_ID" 20 (Writing AircraftMission) 0 0 must
    ∷ field "AC_TAIL_NO" 10 (Writing Text) 0 0 may
    ∷ field "AC_TO" 12 (Label Minute) 0 0 may
    ∷ field "SENSOR_ID_TYPE" 4 (Label Sensor) 0 0 must
    ∷ field "SENSOR_ID" 6 (Writing Text) 0 0 must
    ∷ field "SCENE_SOURCE" 1 (Figure Number) 0 9 may
    ∷ field "SCNUM" 6 (Figure Number) 0 999999 must
    ∷ field "PDATE" 8 (Label Date) 0 0 must
    ∷ field "IMHOSTNO" 6 (Figure Number) 0 999999 must
    ∷ field "IMREQID" 5 (Figure Number) 0 99999 must
    ∷ field "MPLAN" 3 (Figure Number) 1 999 must
    ∷ field "ENTLOC" 25 (Spot Place) 0 0 may
    ∷ field "LOC_ACCY" 6 (Figure Accuracy) 1 99999 must
    ∷ field "ENTELV" 6 (Figure Signed) 1000 30000 may
    ∷ field "ELV_UNIT" 1 (Spot LengthUnit) 0 0 may
    ∷ field "EXITLOC" 25 (Spot Place) 0 0 may
    ∷ field "EXITELV" 6 (Figure Signed) 1000 30000 may
    ∷ field "TMAP" 7 (Figure Angle) 0 180000 may
    ∷ field "ROW_SPACING" 7 (Figure Spacing) 0 999999 must
    ∷ field "ROW_SPACING_UNITS" 1 (Spot SpacingUnit) 0 0 must
    ∷ field "COL_SPACING" 7 (Figure Spacing) 0 999999 must
    ∷ field "COL_SPACING_UNITS" 1 (Spot SpacingUnit) 0 0 must
    ∷ field "FOCAL_LENGTH" 6 (Figure Focal) 1 89999 must
    ∷ field "SENSERIAL" 6 (Figure Number) 1 999999 may
    ∷ field "ABSWVER" 7 (Label Version) 0 0 may
    ∷ field "CAL_DATE" 8 (Label Date) 0 0 may
    ∷ field "PATCH_TOT" 4 (Figure Total) 0 9999 must
    ∷ field "MTI_TOT" 3 (Figure Total) 0 999 must
    ∷ [])

-- all of them: AIMIDB from row 0, STDIDC from row 18, ACFTB from row 36
abbrev pub published : List Field
published = aimidb ++ (stdidc ++ acftb)
