use Rattle.std.proofs.Common.{◌≡◌, Some}
use Rattle.fields.proofs.Tagging.{spelled}
use Rattle.rows.specs.Slots.{slot, kind_of}
use Rattle.rows.specs.Readings.{reading}
use Rattle.rows.proofs.slots.SlotKind.spell.Goals as goal

pub returns : goal.returns
unfolding slot
returns c =
    let k = c.args.self.now.cell in
    let v = c.in_ok-given.given.now in
    let y = c.spell-2 in
    let w : Some v ≡ c.args.value.now = rw c.in_ok-given.ensures.ok_part at c.as_ref.ensures.value in
    rw (c.if-self.false, ← w) (spelled Some (λ a b e. cc) (kind_of k.row k.sar) (reading v) c.args.out.now y.new.out y.result y.ensures)
