use Rattle.std.proofs.Common.{sym}
use Rattle.issued.proofs.Tables.{number_at}
use Rattle.issued.proofs.row_number.RowNumber.name.Goals as goal

pub returns : goal.returns
returns c = rw (c.first.ensures, c.at.ensures) (sym (number_at c.args.self.i c.args.self.inside))
