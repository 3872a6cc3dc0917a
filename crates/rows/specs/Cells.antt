-- What a row's kind reads.
use Rattle.std.specs.Prelude.{◌≡◌, ℕ, ◌≤◌, Bool, true, cond, ◌&&◌, List, codes, Option, ◌==◌, nat_le}
use Rattle.std.proofs.Common.{sym, subst, arith, leb-true, eqb-true}
use Rattle.kind.specs.Kinds.{Laws}
use Rattle.kinds.specs.Bytes.{and_parts}
use Rattle.kinds.specs.Numbers as numbers
use Rattle.kinds.specs.Points as points
use Rattle.kinds.specs.Signs as signs
use Rattle.kinds.specs.Texts as texts
use Rattle.kinds.specs.Listing.{listed, listed_laws}
use Rattle.places.specs.Locations as locations
use Rattle.codes.specs.Missions as missions
use Rattle.places.specs.Places as places
use Rattle.codes.specs.Replays as replays
use Rattle.codes.specs.Sensors as sensors
use Rattle.codes.specs.Turns as turns
use Rattle.codes.specs.Units as units
use Rattle.codes.specs.Versions as versions
use Rattle.fields.specs.Accuracies as accuracies
use Rattle.fields.specs.Focals as focals
use Rattle.fields.specs.Names.{named, named_laws}
use Rattle.fields.specs.Segments as segments
use Rattle.fields.specs.Spacings as spacings
use Rattle.fields.specs.Stamps as stamps
use Rattle.fields.specs.Tagged.{tagged, tagged_laws, one_unit}
use Rattle.rows.specs.declared.code.Code.{Code}
use Rattle.rows.specs.declared.code.Code.TheVariants as code
use Rattle.rows.specs.declared.code.FigureCode.{FigureCode}
use Rattle.rows.specs.declared.code.FigureCode.TheVariants as figure_code
use Rattle.rows.specs.declared.code.WritingCode.{WritingCode}
use Rattle.rows.specs.declared.code.WritingCode.TheVariants as writing_code
use Rattle.rows.specs.declared.code.LabelCode.{LabelCode}
use Rattle.rows.specs.declared.code.LabelCode.TheVariants as label_code
use Rattle.rows.specs.declared.code.SpotCode.{SpotCode}
use Rattle.rows.specs.declared.code.SpotCode.TheVariants as spot_code
use Rattle.rows.specs.declared.value.Figure.TheVariants as figures
use Rattle.rows.specs.declared.value.Label.TheVariants as labels
use Rattle.rows.specs.declared.value.Spot.TheVariants as spots
use Rattle.rows.specs.Fair.{figure_fair, writing_fair, label_fair, spot_fair, fair_width}
use Rattle.rows.specs.Readings.{Reading}
use Rattle.rows.specs.Readings.Reading.{figure, writing, label, spot}
use Rattle.rows.specs.Readings.Written.{text, name, letters, segment, spaces, underscore}

-- a total after SAR is a number up to its limit, and after any other sensor zeros only
abbrev pub total : ℕ → ℕ → Bool → List ℕ → Option ℕ
total w high sar = numbers.number w 0 (cond sar high 0)

-- by width, range and whether SAR was read before, group by group
abbrev pub figure_plain : FigureCode → ℕ → ℕ → ℕ → Bool → List ℕ → Option Reading
figure_plain figure_code.Number w low high sar = tagged (λ v. figure (figures.Number v)) (numbers.number w low high)
figure_plain figure_code.Signed w low high sar = tagged (λ v. figure (figures.Signed v)) (signs.signed 5 low high)
figure_plain figure_code.Angle w low high sar = tagged (λ v. figure (figures.Decimal v)) (points.point 3 3 low high)
figure_plain figure_code.Accuracy w low high sar = tagged (λ v. figure (figures.Accuracy v)) (accuracies.accuracy low high)
figure_plain figure_code.Spacing w low high sar = tagged (λ v. figure (figures.Spacing v)) (spacings.spacing low high)
figure_plain figure_code.Focal w low high sar = tagged (λ v. figure (figures.Focal v)) (focals.focal low high)
figure_plain figure_code.Total w low high sar = tagged (λ v. figure (figures.Number v)) (total w high sar)

abbrev pub writing_plain : WritingCode → ℕ → ℕ → ℕ → Bool → List ℕ → Option Reading
writing_plain writing_code.Text w low high sar = tagged (λ v. writing (text v)) (texts.text w)
writing_plain writing_code.MissionName w low high sar = tagged (λ v. writing (name v)) (named (codes "NOT AVAIL."))
writing_plain writing_code.AircraftMission w low high sar = tagged (λ v. writing (name v)) (named (codes "NOT AVAILABLE       "))
writing_plain writing_code.Capitals w low high sar = tagged (λ v. writing (letters v)) (texts.capitals w)
writing_plain writing_code.EndSegment w low high sar = tagged (λ v. writing (segment v)) segments.segment
writing_plain writing_code.Spaces w low high sar = tagged (λ _. writing spaces) (texts.empty w)
writing_plain writing_code.Underscore w low high sar = tagged (λ _. writing underscore) (texts.word (codes "_"))

abbrev pub label_plain : LabelCode → ℕ → ℕ → ℕ → Bool → List ℕ → Option Reading
label_plain label_code.Moment w low high sar = tagged (λ v. label (labels.Moment v)) stamps.stamped_moment
label_plain label_code.Minute w low high sar = tagged (λ v. label (labels.Minute v)) stamps.stamped_minute
label_plain label_code.Date w low high sar = tagged (λ v. label (labels.Date v)) stamps.stamped_date
label_plain label_code.MissionNumber w low high sar = tagged (λ v. label (labels.Mission v)) missions.mission
label_plain label_code.Turn w low high sar = tagged (λ v. label (labels.Turn v)) (turns.turn low high)
label_plain label_code.Replay w low high sar = tagged (λ v. label (labels.Replay v)) replays.replay
label_plain label_code.Sensor w low high sar = tagged (λ v. label (labels.Sensor v)) sensors.sensor
label_plain label_code.Version w low high sar = tagged (λ v. label (labels.Version v)) versions.version

abbrev pub spot_plain : SpotCode → ℕ → ℕ → ℕ → Bool → List ℕ → Option Reading
spot_plain spot_code.Location w low high sar = tagged (λ v. spot (spots.Location v)) locations.location
spot_plain spot_code.Place w low high sar = tagged (λ v. spot (spots.Place v)) places.place
spot_plain spot_code.LengthUnit w low high sar = tagged (λ v. spot (spots.Unit v)) (listed units.letters units.lengths)
spot_plain spot_code.SpacingUnit w low high sar = tagged (λ v. spot (spots.Unit v)) (listed units.letters units.spacings)

abbrev pub plain : Code → ℕ → ℕ → ℕ → Bool → List ℕ → Option Reading
plain (code.Figure k) = figure_plain k
plain (code.Writing k) = writing_plain k
plain (code.Label k) = label_plain k
plain (code.Spot k) = spot_plain k

fixed : (w n : ℕ) → (w == n) ≡ true → {f : List ℕ → Option Reading} → Laws n f → Laws w f
fixed w n e {f} k = subst (λ x. Laws x f) (sym (eqb-true w n e)) k

within : (w low high : ℕ) → (nat_le low w && nat_le w high) ≡ true → (low ≤ w) × (w ≤ high)
within w low high e = let p = and_parts (nat_le low w) (nat_le w high) e in (leb-true low w p.0, leb-true w high p.1)

pub figure_laws : (k : FigureCode) (w low high : ℕ) (sar : Bool) → figure_fair k w ≡ true → Laws w (figure_plain k w low high sar)
figure_laws figure_code.Number w low high sar e = let p = within w 1 18 e in tagged_laws (λ v. figure (figures.Number v)) (λ a b e. cc) (numbers.number_laws w low high p.0 p.1)
figure_laws figure_code.Signed w low high sar e = fixed w 6 e (tagged_laws (λ v. figure (figures.Signed v)) (λ a b e. cc) (signs.signed_laws 5 low high (omega arith) (omega arith)))
figure_laws figure_code.Angle w low high sar e = fixed w 7 e (tagged_laws (λ v. figure (figures.Decimal v)) (λ a b e. cc) (points.point_laws 3 3 low high (omega arith) (omega arith)))
figure_laws figure_code.Accuracy w low high sar e = fixed w 6 e (tagged_laws (λ v. figure (figures.Accuracy v)) (λ a b e. cc) (accuracies.accuracy_laws low high))
figure_laws figure_code.Spacing w low high sar e = fixed w 7 e (tagged_laws (λ v. figure (figures.Spacing v)) (λ a b e. cc) (spacings.spacing_laws low high))
figure_laws figure_code.Focal w low high sar e = fixed w 6 e (tagged_laws (λ v. figure (figures.Focal v)) (λ a b e. cc) (focals.focal_laws low high))
figure_laws figure_code.Total w low high sar e = let p = within w 1 18 e in tagged_laws (λ v. figure (figures.Number v)) (λ a b e. cc) (numbers.number_laws w 0 (cond sar high 0) p.0 p.1)

pub writing_laws : (k : WritingCode) (w low high : ℕ) (sar : Bool) → writing_fair k w ≡ true → Laws w (writing_plain k w low high sar)
writing_laws writing_code.Text w low high sar e = let p = within w 1 999 e in tagged_laws (λ v. writing (text v)) (λ a b e. cc) (texts.text_laws w p.0 p.1)
writing_laws writing_code.MissionName w low high sar e = fixed w 10 e (tagged_laws (λ v. writing (name v)) (λ a b e. cc) (named_laws (codes "NOT AVAIL.") (omega arith) (omega arith)))
writing_laws writing_code.AircraftMission w low high sar e = fixed w 20 e (tagged_laws (λ v. writing (name v)) (λ a b e. cc) (named_laws (codes "NOT AVAILABLE       ") (omega arith) (omega arith)))
writing_laws writing_code.Capitals w low high sar e = let p = within w 1 999 e in tagged_laws (λ v. writing (letters v)) (λ a b e. cc) (texts.capitals_laws w p.0 p.1)
writing_laws writing_code.EndSegment w low high sar e = fixed w 2 e (tagged_laws (λ v. writing (segment v)) (λ a b e. cc) segments.segment_laws)
writing_laws writing_code.Spaces w low high sar e = let p = within w 1 999 e in tagged_laws (λ _. writing spaces) one_unit (texts.empty_laws w p.0 p.1)
writing_laws writing_code.Underscore w low high sar e = fixed w 1 e (tagged_laws (λ _. writing underscore) one_unit (texts.word_laws (codes "_") (omega arith) (omega arith)))

pub label_laws : (k : LabelCode) (w low high : ℕ) (sar : Bool) → label_fair k w ≡ true → Laws w (label_plain k w low high sar)
label_laws label_code.Moment w low high sar e = fixed w 14 e (tagged_laws (λ v. label (labels.Moment v)) (λ a b e. cc) stamps.stamped_moment_laws)
label_laws label_code.Minute w low high sar e = fixed w 12 e (tagged_laws (λ v. label (labels.Minute v)) (λ a b e. cc) stamps.stamped_minute_laws)
label_laws label_code.Date w low high sar e = fixed w 8 e (tagged_laws (λ v. label (labels.Date v)) (λ a b e. cc) stamps.stamped_date_laws)
label_laws label_code.MissionNumber w low high sar e = fixed w 4 e (tagged_laws (λ v. label (labels.Mission v)) (λ a b e. cc) missions.mission_laws)
label_laws label_code.Turn w low high sar e = fixed w 2 e (tagged_laws (λ v. label (labels.Turn v)) (λ a b e. cc) (turns.turn_laws low high))
label_laws label_code.Replay w low high sar e = fixed w 3 e (tagged_laws (λ v. label (labels.Replay v)) (λ a b e. cc) replays.replay_laws)
label_laws label_code.Sensor w low high sar e = fixed w 4 e (tagged_laws (λ v. label (labels.Sensor v)) (λ a b e. cc) sensors.sensor_laws)
label_laws label_code.Version w low high sar e = fixed w 7 e (tagged_laws (λ v. label (labels.Version v)) (λ a b e. cc) versions.version_laws)

pub spot_laws : (k : SpotCode) (w low high : ℕ) (sar : Bool) → spot_fair k w ≡ true → Laws w (spot_plain k w low high sar)
spot_laws spot_code.Location w low high sar e = fixed w 11 e (tagged_laws (λ v. spot (spots.Location v)) (λ a b e. cc) locations.location_laws)
spot_laws spot_code.Place w low high sar e = fixed w 25 e (tagged_laws (λ v. spot (spots.Place v)) (λ a b e. cc) places.place_laws)
spot_laws spot_code.LengthUnit w low high sar e = fixed w 1 e (tagged_laws (λ v. spot (spots.Unit v)) (λ a b e. cc) (listed_laws units.spelt units.lengths))
spot_laws spot_code.SpacingUnit w low high sar e = fixed w 1 e (tagged_laws (λ v. spot (spots.Unit v)) (λ a b e. cc) (listed_laws units.spelt units.spacings))

pub plain_laws : (k : Code) (w low high : ℕ) (sar : Bool) → fair_width k w ≡ true → Laws w (plain k w low high sar)
plain_laws (code.Figure k) = figure_laws k
plain_laws (code.Writing k) = writing_laws k
plain_laws (code.Label k) = label_laws k
plain_laws (code.Spot k) = spot_laws k
