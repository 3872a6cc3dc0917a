use Rattle.std.proofs.Common.{arith}
use Rattle.area.proofs.Tiled.{tiling_low, going_more, going_place, going_width, going_all, tells_equal}
use Rattle.area.proofs.filling.tiles.Goals as goal

pub returns-then-end-start : goal.returns-then-end-start
returns-then-end-start c = λ t. let h = tiling_low c.args.entries.now c.args.start c.args.end t in omega (arith, c.if-end-start.true)

pub returns-then-e-at : goal.returns-then-e-at
returns-then-e-at c = going_place c.loop-i.invariant c.loop-i-test.true c.if-e-at.true

pub returns-then-end-at : goal.returns-then-end-at
returns-then-end-at c = going_width c.loop-i.invariant c.loop-i-test.true c.if-end-at.true

pub loop-i-preserved : goal.loop-i-preserved
loop-i-preserved c = going_more c.loop-i.invariant c.loop-i-test.true c.if-e-at.false c.if-end-at.false

pub returns : goal.returns
returns c = tells_equal (going_all c.loop-i.invariant c.loop-i-test.false)
