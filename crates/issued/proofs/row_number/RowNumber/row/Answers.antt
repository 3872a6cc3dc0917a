use Rattle.issued.specs.Published.{aimidb, stdidc, acftb}
use Rattle.issued.proofs.Tables.{row_in_table}
use Rattle.issued.proofs.row_number.RowNumber.row.Goals as goal

pub returns : goal.returns
unfolding aimidb stdidc acftb
returns c = row_in_table c.args.self.i
