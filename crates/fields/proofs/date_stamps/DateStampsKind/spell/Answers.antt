use Rattle.std.proofs.Common.{◌≡◌, Some, None, refl, sym, ◌∙◌}
use Rattle.std.proofs.lemmas.Result.{err_from_is_err_and}
use Rattle.dates.specs.CalendarDates.{calendar_date}
use Rattle.fields.specs.Stamps.{stamped_date, date_strips}
use Rattle.fields.proofs.Stripped.{refused_with, strips_spelled, strips_none}
use Rattle.fields.proofs.date_stamps.DateStampsKind.spell.Goals as goal

pub returns-in_err-date : goal.returns-in_err-date
unfolding stamped_date
returns-in_err-date c =
    let z : c.full.result ≡ None = c.in_err-date.ensures.ok_part in
    let e = refused_with c.full.result c.in_err-date.field-0.0 c.no_reading.result z c.in_err-date.ensures.value in
    let p = err_from_is_err_and c.from_residual.result c.from_residual.ensures.1 in
    rw (p.1, p.2, e) (c.no_reading.ensures, refl, λ s l q. strips_none date_strips calendar_date s c.args.value.now (sym c.full.ensures ∙ z) q)

pub returns : goal.returns
unfolding stamped_date
returns c =
    let z : c.full.result ≡ Some c.in_ok-date.date = c.in_ok-date.ensures.ok_part in
    strips_spelled date_strips calendar_date c.args.value.now c.in_ok-date.date c.args.out.now c.spell.new.out c.spell.result (sym c.full.ensures ∙ z) c.spell.ensures
