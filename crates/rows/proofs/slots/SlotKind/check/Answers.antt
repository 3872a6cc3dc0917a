use Rattle.std.proofs.Common.{rules}
use Rattle.fields.proofs.Tagging.{checked}
use Rattle.rows.specs.Slots.{slot}
use Rattle.rows.proofs.slots.SlotKind.check.Goals as goal

pub returns : goal.returns
unfolding slot
returns c = rw c.if-self.false (search (rules, checked))
