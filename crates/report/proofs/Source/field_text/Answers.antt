use Rattle.std.proofs.Common.{◌++◌, ap}
use Rattle.std.proofs.ByRecursion.{All-get_or}
use Rattle.std.proofs.lemmas.Result.{err_from_is_err_and}
use Rattle.area.proofs.Enlisting.{nowhere}
use Rattle.report.specs.Entries.{Placed, Opens, entries_lines}
use Rattle.report.proofs.Steps.{entry_again, entries_end}
use Rattle.report.proofs.Source.field_text.Goals as goal

pub loop-field-init : goal.loop-field-init
loop-field-init c = λ l laid o. ap (λ x. x ++ entries_lines l c.args.fields.now) c.new-text.ensures.bytes

pub add_field-requires : goal.add_field-requires
add_field-requires c = record { placed = All-get_or (Placed c.args.self.now.bytes.now) c.args.fields.now c.loop-field.field-index nowhere c.loop-field-test.true c.requires.placed }

pub loop-field-preserved : goal.loop-field-preserved
loop-field-preserved c = λ l laid o.
    let opens = All-get_or (Opens l) c.args.fields.now c.loop-field.field-index nowhere c.loop-field-test.true o in
    entry_again l c.args.fields.now c.loop-field.field-index nowhere _ _ _ c.loop-field-test.true (c.in_ok-add_field.ensures l laid opens) (c.loop-field.invariant l laid o)

pub returns-in_err-add_field : goal.returns-in_err-add_field
returns-in_err-add_field c = λ l laid o.
    let p = err_from_is_err_and c.from_residual.result c.from_residual.ensures.1 in
    let opens = All-get_or (Opens l) c.args.fields.now c.loop-field.field-index nowhere c.loop-field-test.true o in
    rw (p.1, p.2) (c.in_err-add_field.ensures l laid opens)

pub returns : goal.returns
returns c = λ l laid o. entries_end l c.args.fields.now c.loop-field.field-index _ _ c.loop-field-test.false (c.loop-field.invariant l laid o)
