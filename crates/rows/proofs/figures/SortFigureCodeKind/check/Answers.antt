use Rattle.std.proofs.Common.{rules}
use Rattle.fields.proofs.Tagging.{checked}
use Rattle.rows.proofs.figures.SortFigureCodeKind.check.Goals as goal

pub returns-in-Number : goal.returns-in-Number
returns-in-Number c = rw c.in-Number.is (search (rules, checked))

pub returns-in-Signed : goal.returns-in-Signed
returns-in-Signed c = rw c.in-Signed.is (search (rules, checked))

pub returns-in-Angle : goal.returns-in-Angle
returns-in-Angle c = rw c.in-Angle.is (search (rules, checked))

pub returns-in-Accuracy : goal.returns-in-Accuracy
returns-in-Accuracy c = rw c.in-Accuracy.is (search (rules, checked))

pub returns-in-Spacing : goal.returns-in-Spacing
returns-in-Spacing c = rw c.in-Spacing.is (search (rules, checked))

pub returns-in-Focal : goal.returns-in-Focal
returns-in-Focal c = rw c.in-Focal.is (search (rules, checked))

pub returns-in-Total : goal.returns-in-Total
returns-in-Total c = rw c.in-Total.is (search (rules, checked))
