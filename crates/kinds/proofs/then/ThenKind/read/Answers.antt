use Rattle.std.proofs.Common.{◌≡◌, ◌-◌, arith}
use Rattle.std.proofs.lemmas.List.{take_rest}
use Rattle.std.proofs.lemmas.Result.{err_from_is_err_and}
use Rattle.kinds.proofs.Fits.{none_from}
use Rattle.kinds.proofs.Sequels.{seq_misfit, seq_some, seq_back}
use Rattle.kinds.proofs.then.ThenKind.read.Goals as goal

pub returns-then-s-width : goal.returns-then-s-width
returns-then-s-width g c =
    let k = g.K.Kind.laws c.args.self.now.first in
    let l = g.L.Kind.laws c.args.self.now.second in
    (none_from _ (seq_misfit k l c.args.s.now (rw (c.width-at.ensures, c.width.ensures) at c.then-s-width.either)), c.no_reading.ensures)

pub returns-in_err-back : goal.returns-in_err-back
returns-in_err-back g c =
    let k = g.K.Kind.laws c.args.self.now.first in
    let l = g.L.Kind.laws c.args.self.now.second in
    let b = rw (take_rest, c.width-at.ensures) at c.in_err-back.ensures in
    let p = err_from_is_err_and c.from_residual-in_err-back.result c.from_residual-in_err-back.ensures.1 in
    rw (p.1, p.2) (none_from _ (seq_back k l c.args.s.now b.0), b.1)

pub returns : goal.returns
returns g c =
    let k = g.K.Kind.laws c.args.self.now.first in
    let l = g.L.Kind.laws c.args.self.now.second in
    let z : c.width-at.result - 0 ≡ c.width-at.result = omega arith in
    let a = rw (z, c.width-at.ensures) at c.in_ok-front.ensures in
    let b = rw (take_rest, c.width-at.ensures) at c.in_ok-back.ensures in
    seq_some k l c.args.s.now _ _ (omega arith) a b
