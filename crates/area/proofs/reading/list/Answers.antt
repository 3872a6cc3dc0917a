use Rattle.std.proofs.Common.{◌<◌, ◌≤◌, length, refl, inl, inr, arith}
use Rattle.std.proofs.lemmas.Result.{err_from_is_err_and}
use Rattle.refusal.specs.declared.fault.Cause.TheVariants.{FewEntries}
use Rattle.refusal.specs.Faults.{fault}
use Rattle.area.specs.Reading.Answers.{astray, refused, answered}
use Rattle.area.specs.Listing.{field_total}
use Rattle.area.proofs.reading.list.Goals as goal

pub returns-in_err-bytes : goal.returns-in_err-bytes
returns-in_err-bytes g c =
    let p = err_from_is_err_and c.from_residual.result c.from_residual.ensures.1 in
    record { answers = rw (p.1, p.2) (astray c.in_err-bytes.ensures); kept = rw p.1 refl }

pub returns-then-entries-count_all : goal.returns-then-entries-count_all
returns-then-entries-count_all g c =
    let l = c.in_ok-bytes.ensures in
    let k = c.count_all.ensures l.ledger.records l.table l.stood.whole l.is in
    let h : length c.args.entries.now < field_total l.ledger.records = omega (arith, c.if-entries-count_all.true) in
    record { answers = rw c.new.ensures (refused l.ledger l.table l.stood (inl (fault FewEntries 0 0 0, (h, refl), refl))); kept = refl }

pub returns : goal.returns
returns g c =
    let l = c.in_ok-bytes.ensures in
    let k = c.count_all.ensures l.ledger.records l.table l.stood.whole l.is in
    let h : field_total l.ledger.records ≤ length c.args.entries.now = omega (arith, c.if-entries-count_all.false) in
    let f = c.fill_all.ensures l.ledger.records l.table l.stood.whole l.is h in
    record { answers = answered l.ledger l.table l.stood (inr (λ g x. let y = x.0 in omega arith, refl)) (record { counted = f.counted; filled = f.filled }); kept = tt }
