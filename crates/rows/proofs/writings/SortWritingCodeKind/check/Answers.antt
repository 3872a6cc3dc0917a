use Rattle.std.proofs.Common.{codes, rules}
use Rattle.fields.specs.Names.{named}
use Rattle.fields.proofs.Tagging.{checked}
use Rattle.rows.specs.Readings.Reading.{writing}
use Rattle.rows.specs.Readings.Written.{name}
use Rattle.rows.proofs.writings.SortWritingCodeKind.check.Goals as goal

pub returns-in-Text : goal.returns-in-Text
returns-in-Text c = rw c.in-Text.is (search (rules, checked))

pub returns-in-MissionName : goal.returns-in-MissionName
returns-in-MissionName c = rw c.in-MissionName.is (checked (λ v. writing (name v)) (named (codes "NOT AVAIL.")) c.args.s.now c.check-in-MissionName.result (rw c.of.ensures at c.check-in-MissionName.ensures))

pub returns-in-AircraftMission : goal.returns-in-AircraftMission
returns-in-AircraftMission c = rw c.in-AircraftMission.is (checked (λ v. writing (name v)) (named (codes "NOT AVAILABLE       ")) c.args.s.now c.check-in-AircraftMission.result (rw c.of-in-AircraftMission.ensures at c.check-in-AircraftMission.ensures))

pub returns-in-Capitals : goal.returns-in-Capitals
returns-in-Capitals c = rw c.in-Capitals.is (search (rules, checked))

pub returns-in-EndSegment : goal.returns-in-EndSegment
returns-in-EndSegment c = rw c.in-EndSegment.is (search (rules, checked))

pub returns-in-Spaces : goal.returns-in-Spaces
returns-in-Spaces c = rw c.in-Spaces.is (search (rules, checked))

pub returns-in-Underscore : goal.returns-in-Underscore
returns-in-Underscore c = rw c.in-Underscore.is (search (rules, checked))
