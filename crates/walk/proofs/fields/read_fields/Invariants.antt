use Rattle.std.proofs.Common.{◌-◌, length, take}
use Rattle.model.proofs.Fielding.{Sofar}
use Rattle.walk.proofs.fields.read_fields.Given as goal

abbrev pub invariant-loop-place : goal.invariant-loop-place
invariant-loop-place g l = Sofar (g.B.Book.means l.book) l.draft 0 l.tag l.base l.bytes l.at l.count × g.B.Book.stands l.book l.tag (take l.at l.bytes) l.mark

abbrev pub decreases-loop-place : goal.decreases-loop-place
decreases-loop-place g l = length l.bytes - l.at
