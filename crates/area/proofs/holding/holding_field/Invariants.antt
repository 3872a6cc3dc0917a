use Rattle.std.proofs.Common.{◌≡◌, ℕ, ◌≤◌, List}
use Rattle.model.specs.Records.{TableField}
use Rattle.area.specs.Finding.{Holds}
use Rattle.area.specs.Parts.{Ahead}
use Rattle.area.proofs.holding.holding_field.Given as goal

abbrev pub invariant-loop-part : goal.invariant-loop-part
invariant-loop-part g l = (l.part-iterator.head ≡ l.head) × (l.part-iterator.book.now ≡ l.book) × (l.part-iterator.at ≤ l.byte) × ((ss : List (List ℕ)) (fs : List (TableField g.B.Book.Val)) → Holds (g.B.Book.means l.book) l.head.tag l.head.data.now ss fs → Ahead ss l.part-iterator.number l.part-iterator.at)
