use Rattle.std.proofs.Common.{sym, ◌∙◌, subst, ap₂}
use Rattle.kind.specs.Kinds.{Told}
use Rattle.rows.specs.Slots.{slot, seen}
use Rattle.issued.proofs.Places.{no_done, reads_at}
use Rattle.issued.proofs.issued_book.IssuedBookBook.value.Goals as goal

pub returns-in_err-here : goal.returns-in_err-here
returns-in_err-here c = λ tag p h a. no_done tag p c.args.mark.now h c.in_err-here.ensures.0 a.1

pub returns : goal.returns
returns c = λ tag p h a.
    let same = ap₂ slot c.slot.ensures.0 c.slot.ensures.1 ∙ sym (reads_at tag p c.args.mark.now h c.in_ok-here.field-0 c.in_ok-here.ensures) in
    subst (λ f. Told seen f c.args.spelling.now c.read.result) same c.read.ensures
