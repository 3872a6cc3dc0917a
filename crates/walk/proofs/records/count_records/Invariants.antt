use Rattle.std.proofs.Common.{◌-◌, length}
use Rattle.model.proofs.Leading.{Sofar}
use Rattle.walk.proofs.records.count_records.Given as goal

abbrev pub invariant-loop-at : goal.invariant-loop-at
invariant-loop-at g l = Sofar (g.B.Book.means l.book) l.bytes l.at l.count

abbrev pub decreases-loop-at : goal.decreases-loop-at
decreases-loop-at g l = length l.bytes - l.at
