use Rattle.std.proofs.Common.{◌≡◌, ◌≤◌, List}
use Rattle.model.specs.Records.{Record, written}
use Rattle.area.specs.Finding.{Sound}
use Rattle.area.specs.Going.{Ahead}
use Rattle.area.proofs.holding.holding_record.Given as goal

abbrev pub invariant-loop-spot : goal.invariant-loop-spot
invariant-loop-spot l = (l.spot-iterator.place ≤ l.byte) × ((k : List Record) → Sound k → l.fn.bytes.all.now ≡ written k → Ahead k l.spot-iterator)
