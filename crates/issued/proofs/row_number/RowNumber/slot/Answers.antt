use Rattle.std.proofs.Common.{ap, ◌∙◌}
use Rattle.rows.specs.Fair.{fair}
use Rattle.issued.proofs.Tables.{row_fair}
use Rattle.issued.proofs.row_number.RowNumber.slot.Goals as goal

pub invariant_of-result : goal.invariant_of-result
invariant_of-result c = record { ok = ap fair c.row.ensures ∙ row_fair c.args.self.i c.args.self.inside }
