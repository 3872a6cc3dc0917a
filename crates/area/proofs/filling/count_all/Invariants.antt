use Rattle.std.proofs.Common.{◌≡◌, ◌≤◌, List, take}
use Rattle.model.specs.Records.{Record, TableRow, AllWhole, written}
use Rattle.area.specs.Listing.{field_total}
use Rattle.area.specs.Going.{Ahead}
use Rattle.area.proofs.filling.count_all.Given as goal

abbrev pub invariant-loop-spot : goal.invariant-loop-spot
invariant-loop-spot g l = (k : List Record) (t : List (TableRow g.B.Book.Val)) → AllWhole (g.B.Book.means l.book) k t → l.fn.bytes.all.now ≡ written k → Ahead k l.spot-iterator × (l.total ≡ field_total (take l.spot-iterator.number k)) × (l.total ≤ l.spot-iterator.place)
