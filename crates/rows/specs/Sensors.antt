-- Whether SAR was read: a field of the sensor's type says so, and any other leaves it as it was.
use Rattle.std.specs.Prelude.{ℕ, Bool, true, false, cond, List, codes}
use Rattle.std.specs.Str.{bytes_eq}
use Rattle.rows.specs.declared.code.Code.{Code}
use Rattle.rows.specs.declared.code.Code.TheVariants as code
use Rattle.rows.specs.declared.code.LabelCode.{LabelCode}
use Rattle.rows.specs.declared.code.LabelCode.TheVariants as label_code

abbrev pub is_sensor_label : LabelCode → Bool
is_sensor_label label_code.Moment = false
is_sensor_label label_code.Minute = false
is_sensor_label label_code.Date = false
is_sensor_label label_code.MissionNumber = false
is_sensor_label label_code.Turn = false
is_sensor_label label_code.Replay = false
is_sensor_label label_code.Sensor = true
is_sensor_label label_code.Version = false

abbrev pub is_sensor : Code → Bool
is_sensor (code.Figure k) = false
is_sensor (code.Writing k) = false
is_sensor (code.Label k) = is_sensor_label k
is_sensor (code.Spot k) = false

-- after a field of this kind, spelled s
abbrev pub flag : Code → Bool → List ℕ → Bool
flag k sar s = cond (is_sensor k) (bytes_eq s (codes "SAR ")) sar
