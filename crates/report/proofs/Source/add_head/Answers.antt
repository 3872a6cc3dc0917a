use Rattle.std.proofs.Common.{◌≡◌, ◌-◌, ◌≤◌, length, take, arith}
use Rattle.std.proofs.lemmas.List.{take_rest}
use Rattle.std.proofs.lemmas.Result.{err_from_is_err_and}
use Rattle.model.specs.Records.{written}
use Rattle.area.proofs.Located.{stop_none, found}
use Rattle.report.proofs.Steps.{head_put}
use Rattle.report.proofs.Source.add_head.Goals as goal

pub returns-in_err-head : goal.returns-in_err-head
returns-in_err-head c = λ l laid o.
    let p = err_from_is_err_and c.from_residual.result c.from_residual.ensures.1 in
    let e = c.args.field in
    let q = o (omega arith) in
    let there : e.place - 11 ≡ length (written (take e.«record» l)) = omega arith in
    let few : length l ≤ e.«record» = stop_none c.args.self.now.bytes.now l e.«record» (e.place - 11) laid.0 laid.1 there e.«record» (omega arith) (rw take_rest at c.in_err-head.ensures) in
    rw (p.1, p.2) (omega arith)

pub returns : goal.returns
returns c = λ l laid o.
    let e = c.args.field in
    let q = o (omega arith) in
    let there : e.place - 11 ≡ length (written (take e.«record» l)) = omega arith in
    let f = found c.args.self.now.bytes.now l e.«record» (e.place - 11) laid.0 laid.1 there c.in_ok-head.head (rw take_rest at c.in_ok-head.ensures) in
    head_put l e c.in_ok-head.head _ _ _ (omega arith) f c.in_ok-add_line.ensures c.in_ok-line.ensures
