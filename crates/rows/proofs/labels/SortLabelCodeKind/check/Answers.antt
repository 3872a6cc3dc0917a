use Rattle.std.proofs.Common.{rules}
use Rattle.fields.proofs.Tagging.{checked}
use Rattle.rows.proofs.labels.SortLabelCodeKind.check.Goals as goal

pub returns-in-Moment : goal.returns-in-Moment
returns-in-Moment c = rw c.in-Moment.is (search (rules, checked))

pub returns-in-Minute : goal.returns-in-Minute
returns-in-Minute c = rw c.in-Minute.is (search (rules, checked))

pub returns-in-Date : goal.returns-in-Date
returns-in-Date c = rw c.in-Date.is (search (rules, checked))

pub returns-in-MissionNumber : goal.returns-in-MissionNumber
returns-in-MissionNumber c = rw c.in-MissionNumber.is (search (rules, checked))

pub returns-in-Turn : goal.returns-in-Turn
returns-in-Turn c = rw c.in-Turn.is (search (rules, checked))

pub returns-in-Replay : goal.returns-in-Replay
returns-in-Replay c = rw c.in-Replay.is (search (rules, checked))

pub returns-in-Sensor : goal.returns-in-Sensor
returns-in-Sensor c = rw c.in-Sensor.is (search (rules, checked))

pub returns-in-Version : goal.returns-in-Version
returns-in-Version c = rw c.in-Version.is (search (rules, checked))
