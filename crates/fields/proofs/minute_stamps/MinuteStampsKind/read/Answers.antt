use Rattle.std.proofs.Common.{Some, sym, ap, ◌∙◌}
use Rattle.std.proofs.lemmas.Result.{err_from_is_err_and}
use Rattle.fields.specs.Stamps.{minute_stamp, stamped_minute}
use Rattle.fields.specs.Tagged.{lifted}
use Rattle.fields.proofs.minute_stamps.MinuteStampsKind.read.Goals as goal

pub returns-in_err-minute : goal.returns-in_err-minute
unfolding stamped_minute
returns-in_err-minute c =
    let p = err_from_is_err_and c.from_residual.result c.from_residual.ensures.1 in
    let h = c.in_err-minute.ensures in
    rw (p.1, p.2) (ap (lifted minute_stamp) h.0, h.1)

pub returns : goal.returns
unfolding stamped_minute
returns c = ap (lifted minute_stamp) c.in_ok-minute.ensures ∙ ap Some (sym c.strip.ensures)
