use Rattle.report.proofs.Steps.{field_put}
use Rattle.report.proofs.Source.add_field.Goals as goal

pub returns : goal.returns
returns c = λ l laid o. field_put l c.args.field _ _ _ _ (c.in_ok-add_head.ensures l laid o) c.in_ok-add_line.ensures c.in_ok-line.ensures
