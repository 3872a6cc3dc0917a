use Rattle.std.proofs.Common.{◌≡◌, ℕ, ◌+◌, ◌≤◌, List, length}
use Rattle.model.specs.Records.{TableField}
use Rattle.area.specs.Finding.{Holds, names}
use Rattle.area.specs.Listing.{entries_of}
use Rattle.area.specs.Parts.{Ahead}
use Rattle.area.proofs.Enlisting.{Sofar}
use Rattle.area.proofs.filling.fill_record.Given as goal

abbrev pub invariant-loop-part : goal.invariant-loop-part
invariant-loop-part g l = (l.part-iterator.head ≡ l.spot.head) × (l.part-iterator.book.now ≡ l.book) × (l.count ≡ l.part-iterator.number) × ((ss : List (List ℕ)) (fs : List (TableField g.B.Book.Val)) → Holds (g.B.Book.means l.book) l.spot.head.tag l.spot.head.data.now ss fs → l.from + length ss ≤ length l.initial.entries → Ahead ss l.part-iterator.number l.part-iterator.at × Sofar l.initial.entries l.entries (entries_of l.spot.number 0 l.base (names fs) ss) l.from l.part-iterator.number)
