use Rattle.std.proofs.Common.{◌∙◌}
use Rattle.lines.proofs.Carried.{carried}
use Rattle.lines.proofs.record_line.Goals as goal
use Rattle.lines.specs.Lines.{bracketed}

pub returns : goal.returns
returns c =
    carried (bracketed c.args.number c.args.place c.args.length) _
    (c.as_str.ensures.value ∙ c.in_ok-text.ensures) c.in_brackets.ensures
