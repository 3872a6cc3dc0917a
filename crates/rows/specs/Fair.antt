-- Which widths a kind may have.
use Rattle.std.specs.Prelude.{ℕ, Bool, ◌&&◌, ◌==◌, nat_le}
use Rattle.rows.specs.declared.code.Code.{Code}
use Rattle.rows.specs.declared.code.Code.TheVariants as code
use Rattle.rows.specs.declared.code.FigureCode.{FigureCode}
use Rattle.rows.specs.declared.code.FigureCode.TheVariants as figure_code
use Rattle.rows.specs.declared.code.WritingCode.{WritingCode}
use Rattle.rows.specs.declared.code.WritingCode.TheVariants as writing_code
use Rattle.rows.specs.declared.code.LabelCode.{LabelCode}
use Rattle.rows.specs.declared.code.LabelCode.TheVariants as label_code
use Rattle.rows.specs.declared.code.SpotCode.{SpotCode}
use Rattle.rows.specs.declared.code.SpotCode.TheVariants as spot_code
use Rattle.rows.specs.declared.row.Row.{Row}

abbrev pub figure_fair : FigureCode → ℕ → Bool
figure_fair figure_code.Number w = nat_le 1 w && nat_le w 18
figure_fair figure_code.Signed w = w == 6
figure_fair figure_code.Angle w = w == 7
figure_fair figure_code.Accuracy w = w == 6
figure_fair figure_code.Spacing w = w == 7
figure_fair figure_code.Focal w = w == 6
figure_fair figure_code.Total w = nat_le 1 w && nat_le w 18

abbrev pub writing_fair : WritingCode → ℕ → Bool
writing_fair writing_code.Text w = nat_le 1 w && nat_le w 999
writing_fair writing_code.MissionName w = w == 10
writing_fair writing_code.AircraftMission w = w == 20
writing_fair writing_code.Capitals w = nat_le 1 w && nat_le w 999
writing_fair writing_code.EndSegment w = w == 2
writing_fair writing_code.Spaces w = nat_le 1 w && nat_le w 999
writing_fair writing_code.Underscore w = w == 1

abbrev pub label_fair : LabelCode → ℕ → Bool
label_fair label_code.Moment w = w == 14
label_fair label_code.Minute w = w == 12
label_fair label_code.Date w = w == 8
label_fair label_code.MissionNumber w = w == 4
label_fair label_code.Turn w = w == 2
label_fair label_code.Replay w = w == 3
label_fair label_code.Sensor w = w == 4
label_fair label_code.Version w = w == 7

abbrev pub spot_fair : SpotCode → ℕ → Bool
spot_fair spot_code.Location w = w == 11
spot_fair spot_code.Place w = w == 25
spot_fair spot_code.LengthUnit w = w == 1
spot_fair spot_code.SpacingUnit w = w == 1

abbrev pub fair_width : Code → ℕ → Bool
fair_width (code.Figure k) w = figure_fair k w
fair_width (code.Writing k) w = writing_fair k w
fair_width (code.Label k) w = label_fair k w
fair_width (code.Spot k) w = spot_fair k w

abbrev pub fair : Row → Bool
fair r = fair_width r.kind r.width
