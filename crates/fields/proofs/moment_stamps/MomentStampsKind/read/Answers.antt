use Rattle.std.proofs.Common.{Some, sym, ap, ◌∙◌}
use Rattle.std.proofs.lemmas.Result.{err_from_is_err_and}
use Rattle.fields.specs.Stamps.{moment_stamp, stamped_moment}
use Rattle.fields.specs.Tagged.{lifted}
use Rattle.fields.proofs.moment_stamps.MomentStampsKind.read.Goals as goal

pub returns-in_err-moment : goal.returns-in_err-moment
unfolding stamped_moment
returns-in_err-moment c =
    let p = err_from_is_err_and c.from_residual.result c.from_residual.ensures.1 in
    let h = c.in_err-moment.ensures in
    rw (p.1, p.2) (ap (lifted moment_stamp) h.0, h.1)

pub returns : goal.returns
unfolding stamped_moment
returns c = ap (lifted moment_stamp) c.in_ok-moment.ensures ∙ ap Some (sym c.strip.ensures)
