use Rattle.std.proofs.Common.{false, subst}
use Rattle.model.specs.Looks.{Fieldeds}
use Rattle.model.proofs.Lists.{never}
use Rattle.area.proofs.Parting.{count_known, count_never}
use Rattle.area.proofs.finding.count_fields.Goals as goal

pub returns-in-Ok-Some : goal.returns-in-Ok-Some
returns-in-Ok-Some g c = λ ss fs w.
    let m = g.B.Book.means c.args.book.now in
    let st = g.B.Book.stands c.args.book.now in
    let x = subst (Fieldeds m st false 0 c.args.head.now.tag 0 c.args.head.now.data.now) c.in-Ok-Some.is c.read_fields.ensures in
    count_known (g.B.Book.laws c.args.book.now) st w c.in-Ok-Some.field-0 c.in-Ok-Some.read c.in-Ok-Some.field-0-is x

pub returns-in-Err : goal.returns-in-Err
returns-in-Err g c = λ ss fs w. never (count_never (g.B.Book.laws c.args.book.now) (g.B.Book.stands c.args.book.now) w c.in-Err.field-0 c.in-Err.ensures)
