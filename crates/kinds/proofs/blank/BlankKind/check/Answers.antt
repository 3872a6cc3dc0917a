use Rattle.std.proofs.Common.{◌≡◌, false, ◌&&◌, eqb, length, arith}
use Rattle.std.proofs.lemmas.Bool.Decides.{nat_tests}
use Rattle.kinds.specs.Bytes.{spaces}
use Rattle.kinds.proofs.Blanking.{blank_checked}
use Rattle.kinds.proofs.blank.BlankKind.check.Goals as goal
use Rattle.kinds.proofs.blank.BlankKind.check.Goals.{else-s-width-via-then-s-width+else-all_spaces, else-s-width-via-else-s-width}

pub returns : goal.returns
returns g c =
    let w = g.K.Kind.wide c.args.self.now.below in
    let s = c.args.s.now in
    let t : (eqb (length s) w && spaces s) ≡ false = elim c.else-s-width.branch [ else-s-width-via-then-s-width+else-all_spaces w ↦ grind (arith, nat_tests) | else-s-width-via-else-s-width w ↦ grind (arith, nat_tests) ] in
    blank_checked w (g.K.Kind.reads c.args.self.now.below) s c.check.result t c.check.ensures
