use Rattle.std.proofs.lemmas.List.{take_rest}
use Rattle.std.proofs.lemmas.Result.{err_from_is_err_and}
use Rattle.model.proofs.Leading.{begun, one_more, listed}
use Rattle.walk.proofs.records.count_records.Goals as goal

pub loop-at-init : goal.loop-at-init
loop-at-init g c = begun _ _

pub returns-in_err-at : goal.returns-in_err-at
returns-in_err-at g c =
    let p = err_from_is_err_and c.from_residual.result c.from_residual.ensures.1 in
    rw (p.1, p.2) (c.loop-at.invariant.falls _ (rw take_rest at c.in_err-at.ensures))

pub loop-at-preserved : goal.loop-at-preserved
loop-at-preserved g c = one_more c.loop-at.invariant _ (rw take_rest at c.in_ok-at.ensures)

pub returns : goal.returns
returns g c = listed c.loop-at.invariant c.loop-at-test.false
