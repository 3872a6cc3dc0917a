use Rattle.std.proofs.Common.{◌≡◌, ◌-◌, arith}
use Rattle.std.proofs.lemmas.List.{take_rest}
use Rattle.kinds.proofs.Fits.{none_from}
use Rattle.kinds.proofs.Sequels.{seq_misfit, seq_checked}
use Rattle.kinds.proofs.then.ThenKind.check.Goals as goal

pub returns-then-s-width : goal.returns-then-s-width
returns-then-s-width g c =
    let k = g.K.Kind.laws c.args.self.now.first in
    let l = g.L.Kind.laws c.args.self.now.second in
    (none_from _ (seq_misfit k l c.args.s.now (rw (c.width-at.ensures, c.width.ensures) at c.then-s-width.either)), c.no_reading.ensures)

pub returns : goal.returns
returns g c =
    let k = g.K.Kind.laws c.args.self.now.first in
    let l = g.L.Kind.laws c.args.self.now.second in
    let z : c.width-at.result - 0 ≡ c.width-at.result = omega arith in
    let a = rw (z, c.width-at.ensures) at c.in_ok-check.ensures in
    let b = rw (take_rest, c.width-at.ensures) at c.check-2.ensures in
    seq_checked k l c.args.s.now a.0 c.check-2.result (omega arith) a.1 b
