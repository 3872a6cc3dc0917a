use Rattle.std.proofs.Common.{◌<◌, ◌≤◌, length, sym, refl, ap, ◌∙◌, subst, ap₂}
use Rattle.std.proofs.lemmas.Result.{err_from_is_err_and}
use Rattle.rows.specs.Sensors.{flag}
use Rattle.rows.specs.Slots.{slot}
use Rattle.issued.specs.Lawful.{issued_laws}
use Rattle.issued.specs.Meant.{after, ahead, next_of, row_at}
use Rattle.issued.proofs.Places.{no_done, asks_here, reads_at, moved, same_width}
use Rattle.issued.proofs.issued_book.IssuedBookBook.pass.Goals as goal

pub returns-in_err-n : goal.returns-in_err-n
returns-in_err-n c = λ tag p h a. no_done tag p c.args.mark.now h c.in_err-n.ensures.0 a.1

pub returns-in_err-check : goal.returns-in_err-check
returns-in_err-check c =
    let q = err_from_is_err_and c.from_residual-in_err-check.result c.from_residual-in_err-check.ensures.1 in
    λ tag p h a.
    let same = ap₂ slot c.slot.ensures.0 c.slot.ensures.1 ∙ sym (reads_at tag p c.args.mark.now h c.in_ok-n.n c.in_ok-n.ensures) in
    let unread = c.in_err-check.ensures in
    rw q.1 (sym (ap (λ f. f c.args.spelling.now) same) ∙ unread.0, q.2 ∙ unread.1, refl)

pub returns : goal.returns
returns c = λ tag p h a.
    let m = c.args.mark.now in
    let s = c.args.spelling.now in
    let n = c.in_ok-n.n in
    let i = c.in_ok-n.ensures in
    let inside : m.row < 64 = subst (λ k. k < 64) i n.inside in
    let same = ap₂ slot c.slot.ensures.0 c.slot.ensures.1 ∙ sym (reads_at tag p m h n i) in
    let read = c.in_ok-check.ensures in
    let one : 1 ≤ length s = (issued_laws.wide tag p a.0 (length s) a.1).0 in
    let wide = same_width a.1 (asks_here tag p m h inside) in
    let row = c.next-row.ensures ∙ ap next_of i in
    let sar = c.sar_after-sar.ensures ∙ ap (λ r. flag r.kind m.sar s) (c.row.ensures ∙ ap row_at i) in
    (read.0, sym (ap (λ f. f s) same) ∙ read.1, λ t. moved tag p m h inside s one wide t ∙ ap₂ (λ j x. after (ahead j) x t) (sym row) (sym sar))
