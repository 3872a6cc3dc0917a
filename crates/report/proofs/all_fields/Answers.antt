use Rattle.std.proofs.Common.{◌≡◌, ◌≤◌, length, take, ap, ◌∙◌, arith, take_at}
use Rattle.std.proofs.lemmas.Result.{err_from_is_err_and}
use Rattle.report.proofs.Standing.{list_ok, list_err}
use Rattle.report.proofs.all_fields.Goals as goal

pub returns-in_err-count : goal.returns-in_err-count
returns-in_err-count g c = λ L t s.
    let p = err_from_is_err_and c.from_residual-in_err-count.result c.from_residual-in_err-count.ensures.1 in
    let many : length c.args.bytes.now ≤ length c.as_mut_slice.result.now = omega (arith, c.as_mut_slice.ensures.len, c.in_ok-fields.ensures.len) in
    rw (p.1, p.2) (list_err (g.B.Book.laws _) s many c.in_err-count.ensures.answers)

pub returns : goal.returns
returns g c = λ L t s.
    let same : length c.list.new.entries ≡ c.in_ok-fields.fields.len = omega (arith, c.list.auto.entries, c.as_mut_slice.ensures.len) in
    c.truncate.ensures.items ∙ ap (take c.in_ok-count.count) (take_at c.list.new.entries _ _ same) ∙ list_ok (g.B.Book.laws _) s c.in_ok-count.ensures.answers
