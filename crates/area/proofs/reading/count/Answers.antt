use Rattle.std.proofs.Common.{sym, refl}
use Rattle.std.proofs.lemmas.Result.{err_from_is_err_and}
use Rattle.area.specs.Reading.Answers.{astray, answered}
use Rattle.area.proofs.reading.count.Goals as goal

pub returns-in_err-seen : goal.returns-in_err-seen
returns-in_err-seen g c =
    let p = err_from_is_err_and c.from_residual.result c.from_residual.ensures.1 in
    rw (p.1, p.2) (astray c.in_err-seen.ensures)

pub returns : goal.returns
returns g c = let l = c.in_ok-seen.ensures in answered l.ledger l.table l.stood refl (sym l.count)
