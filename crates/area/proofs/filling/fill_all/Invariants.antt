use Rattle.std.proofs.Common.{◌≡◌, ◌≤◌, List, length}
use Rattle.model.specs.Records.{Record, TableRow, AllWhole, written}
use Rattle.area.specs.Listing.{field_total}
use Rattle.area.specs.Going.{Ahead}
use Rattle.area.proofs.Filled.{Sofar}
use Rattle.area.proofs.filling.fill_all.Given as goal

abbrev pub invariant-loop-spot : goal.invariant-loop-spot
invariant-loop-spot g l = (l.filled ≤ l.spot-iterator.place) × ((k : List Record) (t : List (TableRow g.B.Book.Val)) → AllWhole (g.B.Book.means l.book) k t → l.fn.bytes.all.now ≡ written k → field_total k ≤ length l.initial.entries → Ahead k l.spot-iterator × Sofar l.initial.entries l.entries k t l.spot-iterator.number l.filled)
