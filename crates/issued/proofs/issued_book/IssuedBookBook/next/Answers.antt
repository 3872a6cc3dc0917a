use Rattle.std.proofs.Common.{◌<◌, sym, ◌∙◌, subst}
use Rattle.issued.proofs.Places.{asks_here, asks_done}
use Rattle.issued.proofs.issued_book.IssuedBookBook.next.Goals as goal

pub returns : goal.returns
returns c = λ tag p h.
    let i = c.in_ok-n.ensures in
    let inside : c.args.mark.now.row < 64 = subst (λ k. k < 64) i c.in_ok-n.n.inside in
    rw (c.name.ensures, c.row.ensures, i) (sym (asks_here tag p c.args.mark.now h inside))

pub returns-in_err-n : goal.returns-in_err-n
returns-in_err-n c = λ tag p h. c.from_residual.ensures ∙ sym (asks_done tag p c.args.mark.now h c.in_err-n.ensures)
