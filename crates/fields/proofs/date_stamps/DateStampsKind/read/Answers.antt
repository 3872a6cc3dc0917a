use Rattle.std.proofs.Common.{Some, sym, ap, ◌∙◌}
use Rattle.std.proofs.lemmas.Result.{err_from_is_err_and}
use Rattle.fields.specs.Stamps.{date_stamp, stamped_date}
use Rattle.fields.specs.Tagged.{lifted}
use Rattle.fields.proofs.date_stamps.DateStampsKind.read.Goals as goal

pub returns-in_err-date : goal.returns-in_err-date
unfolding stamped_date
returns-in_err-date c =
    let p = err_from_is_err_and c.from_residual.result c.from_residual.ensures.1 in
    let h = c.in_err-date.ensures in
    rw (p.1, p.2) (ap (lifted date_stamp) h.0, h.1)

pub returns : goal.returns
unfolding stamped_date
returns c = ap (lifted date_stamp) c.in_ok-date.ensures ∙ ap Some (sym c.strip.ensures)
