use Rattle.std.proofs.Common.{◌≡◌, Some, None, refl, sym, ◌∙◌}
use Rattle.std.proofs.lemmas.Result.{err_from_is_err_and}
use Rattle.dates.specs.Moments.{moment}
use Rattle.fields.specs.Stamps.{stamped_moment, moment_strips}
use Rattle.fields.proofs.Stripped.{refused_with, strips_spelled, strips_none}
use Rattle.fields.proofs.moment_stamps.MomentStampsKind.spell.Goals as goal

pub returns-in_err-moment : goal.returns-in_err-moment
unfolding stamped_moment
returns-in_err-moment c =
    let z : c.full.result ≡ None = c.in_err-moment.ensures.ok_part in
    let e = refused_with c.full.result c.in_err-moment.field-0.0 c.no_reading.result z c.in_err-moment.ensures.value in
    let p = err_from_is_err_and c.from_residual.result c.from_residual.ensures.1 in
    rw (p.1, p.2, e) (c.no_reading.ensures, refl, λ s l q. strips_none moment_strips moment s c.args.value.now (sym c.full.ensures ∙ z) q)

pub returns : goal.returns
unfolding stamped_moment
returns c =
    let z : c.full.result ≡ Some c.in_ok-moment.moment = c.in_ok-moment.ensures.ok_part in
    strips_spelled moment_strips moment c.args.value.now c.in_ok-moment.moment c.args.out.now c.spell.new.out c.spell.result (sym c.full.ensures ∙ z) c.spell.ensures
