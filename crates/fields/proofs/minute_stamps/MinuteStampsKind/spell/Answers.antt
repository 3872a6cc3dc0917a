use Rattle.std.proofs.Common.{◌≡◌, Some, None, refl, sym, ◌∙◌}
use Rattle.std.proofs.lemmas.Result.{err_from_is_err_and}
use Rattle.dates.specs.Minutes.{minute}
use Rattle.fields.specs.Stamps.{stamped_minute, minute_strips}
use Rattle.fields.proofs.Stripped.{refused_with, strips_spelled, strips_none}
use Rattle.fields.proofs.minute_stamps.MinuteStampsKind.spell.Goals as goal

pub returns-in_err-minute : goal.returns-in_err-minute
unfolding stamped_minute
returns-in_err-minute c =
    let z : c.full.result ≡ None = c.in_err-minute.ensures.ok_part in
    let e = refused_with c.full.result c.in_err-minute.field-0.0 c.no_reading.result z c.in_err-minute.ensures.value in
    let p = err_from_is_err_and c.from_residual.result c.from_residual.ensures.1 in
    rw (p.1, p.2, e) (c.no_reading.ensures, refl, λ s l q. strips_none minute_strips minute s c.args.value.now (sym c.full.ensures ∙ z) q)

pub returns : goal.returns
unfolding stamped_minute
returns c =
    let z : c.full.result ≡ Some c.in_ok-minute.minute = c.in_ok-minute.ensures.ok_part in
    strips_spelled minute_strips minute c.args.value.now c.in_ok-minute.minute c.args.out.now c.spell.new.out c.spell.result (sym c.full.ensures ∙ z) c.spell.ensures
