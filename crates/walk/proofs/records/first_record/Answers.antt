use Rattle.std.proofs.Common.{◌+◌, false, sym, ◌∙◌, subst}
use Rattle.std.proofs.lemmas.Result.{err_from_is_err_and}
use Rattle.model.specs.Looks.{Fieldeds}
use Rattle.walk.specs.Heads.{Heads}
use Rattle.walk.proofs.Joining.{recorded_broke, recorded_went}
use Rattle.walk.proofs.Recording.{headless, headed_bad, headed_led}
use Rattle.walk.proofs.records.first_record.Goals as goal

pub returns-in_err-head : goal.returns-in_err-head
returns-in_err-head g c =
    let p = err_from_is_err_and c.from_residual.result c.from_residual.ensures.1 in
    let b = recorded_broke c.read_header.result c.args.n c.in_err-head.field-0.0 (sym c.at_record.ensures ∙ c.in_err-head.was) in
    let x = subst (Heads c.args.at c.args.bytes.now) b.1 c.read_header.ensures in
    rw (p.1, p.2, b.2) (headless (g.B.Book.means c.args.book.now) c.args.bytes.now c.args.at c.args.n c.requires.some x)

pub returns-in_err-at_record : goal.returns-in_err-at_record
returns-in_err-at_record g c =
    let m = g.B.Book.means c.args.book.now in
    let st = g.B.Book.stands c.args.book.now in
    let h = c.in_ok-head.head in
    let p = err_from_is_err_and c.from_residual-in_err-at_record.result c.from_residual-in_err-at_record.ensures.1 in
    let x = subst (Heads c.args.at c.args.bytes.now) (recorded_went c.read_header.result c.args.n h (sym c.at_record.ensures ∙ c.in_ok-head.was)) c.read_header.ensures in
    let b = recorded_broke c.read_fields.result c.args.n c.in_err-at_record.field-0.0 (sym c.at_record-2.ensures ∙ c.in_err-at_record.was) in
    let y = subst (Fieldeds m st false 0 h.tag (c.args.at + 11) h.data.now) b.1 c.read_fields.ensures in
    rw (p.1, p.2, b.2) (headed_bad m c.args.bytes.now c.args.at c.args.n h x st b.0 y)

pub returns : goal.returns
returns g c =
    let m = g.B.Book.means c.args.book.now in
    let st = g.B.Book.stands c.args.book.now in
    let h = c.in_ok-head.head in
    let x = subst (Heads c.args.at c.args.bytes.now) (recorded_went c.read_header.result c.args.n h (sym c.at_record.ensures ∙ c.in_ok-head.was)) c.read_header.ensures in
    let o = c.in_ok-at_record.field-0 in
    let y = subst (Fieldeds m st false 0 h.tag (c.args.at + 11) h.data.now) (recorded_went c.read_fields.result c.args.n o (sym c.at_record-2.ensures ∙ c.in_ok-at_record.was)) c.read_fields.ensures in
    headed_led m c.args.bytes.now c.args.at c.args.n h x st o y
