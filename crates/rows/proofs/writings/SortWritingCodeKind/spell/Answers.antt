use Rattle.std.proofs.Common.{codes}
use Rattle.fields.specs.Names.{named, seen_name}
use Rattle.fields.proofs.Tagging.{spelled}
use Rattle.rows.specs.Readings.Reading.{writing}
use Rattle.rows.specs.Readings.Written.{name}
use Rattle.rows.proofs.writings.SortWritingCodeKind.spell.Goals as goal

-- the mission of an aircraft
pub returns-in-AircraftMission-Name : goal.returns-in-AircraftMission-Name
returns-in-AircraftMission-Name c =
    let x = c.in-AircraftMission-Name in
    let y = c.spell-in-AircraftMission-Name in
    rw (x.is-0, x.is-1) (spelled (λ v. writing (name v)) (λ a b e. cc) (named (codes "NOT AVAILABLE       ")) (seen_name x.v) c.args.out.now y.new.out y.result (rw c.of-in-AircraftMission-Name.ensures at y.ensures))
