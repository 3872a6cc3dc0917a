use Rattle.area.proofs.Tiled.{Going}
use Rattle.area.proofs.filling.tiles.Given as goal

abbrev pub invariant-loop-i : goal.invariant-loop-i
invariant-loop-i l = Going l.entries l.start l.end l.i l.at
