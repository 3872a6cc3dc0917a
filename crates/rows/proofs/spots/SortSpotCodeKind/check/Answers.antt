use Rattle.std.proofs.Common.{rules}
use Rattle.fields.proofs.Tagging.{checked}
use Rattle.rows.proofs.spots.SortSpotCodeKind.check.Goals as goal

pub returns-in-Location : goal.returns-in-Location
returns-in-Location c = rw c.in-Location.is (search (rules, checked))

pub returns-in-Place : goal.returns-in-Place
returns-in-Place c = rw c.in-Place.is (search (rules, checked))

pub returns-in-LengthUnit : goal.returns-in-LengthUnit
returns-in-LengthUnit c = rw c.in-LengthUnit.is (search (rules, checked))

pub returns-in-SpacingUnit : goal.returns-in-SpacingUnit
returns-in-SpacingUnit c = rw c.in-SpacingUnit.is (search (rules, checked))
