use Rattle.std.proofs.Common.{refl}
use Rattle.std.proofs.lemmas.Result.{err_from_is_err_and}
use Rattle.area.specs.Reading.Answers.{astray, answered}
use Rattle.area.proofs.reading.open.Goals as goal

pub returns-in_err-look : goal.returns-in_err-look
returns-in_err-look g c =
    let p = err_from_is_err_and c.from_residual.result c.from_residual.ensures.1 in
    rw (p.1, p.2) (astray c.in_err-look.ensures)

pub returns : goal.returns
returns g c = let l = c.in_ok-look.ensures in answered l.ledger l.table l.stood refl refl
