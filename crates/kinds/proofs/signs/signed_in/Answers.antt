use Rattle.std.proofs.Common.{Some, sym, ap, ◌∙◌, w64, SFits, rules}
use Rattle.std.proofs.lemmas.Int.{to_z-of_z}
use Rattle.kinds.specs.Signs.{plus, minus}
use Rattle.kinds.proofs.Signing.{signed_empty, first_plus, first_minus, first_other, short}
use Rattle.kinds.proofs.signs.signed_in.Goals as goal

pub returns-in_err-sign : goal.returns-in_err-sign
returns-in_err-sign c = let k = c.args.k.now in c.from_residual.ensures ∙ sym (signed_empty k.digits k.below k.above c.args.s.now (search rules))

pub returns-in_err-n : goal.returns-in_err-n
returns-in_err-n c =
    let k = c.args.k.now in
    c.from_residual-in_err-n.ensures ∙ ap plus c.in_err-n.ensures ∙ sym (first_plus k.digits k.below k.above c.in_ok-sign.sign.now c.in_ok-sign.size.now c.args.s.now (search rules) c.if-sign-eq43.true)

pub plus_of-requires : goal.plus_of-requires
plus_of-requires c = let k = c.args.k.now in short k.digits 0 k.above _ c.in_ok-n.n k.few (sym c.in_ok-n.ensures)

pub returns-in_err-n-2 : goal.returns-in_err-n-2
returns-in_err-n-2 c =
    let k = c.args.k.now in
    c.from_residual-in_err-n-2.ensures ∙ ap minus c.in_err-n-2.ensures ∙ sym (first_minus k.digits k.below k.above c.in_ok-sign.sign.now c.in_ok-sign.size.now c.args.s.now (search rules) c.if-sign-eq45.true)

pub minus_of-requires : goal.minus_of-requires
minus_of-requires c = let k = c.args.k.now in short k.digits 1 k.below _ c.in_ok-n-2.n k.few (sym c.in_ok-n-2.ensures)

pub returns-in_ok-n : goal.returns-in_ok-n
returns-in_ok-n c =
    let k = c.args.k.now in
    let f : SFits w64 c.plus_of.result = search rules in
    ap Some (to_z-of_z w64 c.plus_of.result f ∙ c.plus_of.ensures) ∙ ap plus c.in_ok-n.ensures ∙ sym (first_plus k.digits k.below k.above c.in_ok-sign.sign.now c.in_ok-sign.size.now c.args.s.now (search rules) c.if-sign-eq43.true)

pub returns-in_ok-n-2 : goal.returns-in_ok-n-2
returns-in_ok-n-2 c =
    let k = c.args.k.now in
    let f : SFits w64 c.minus_of.result = search rules in
    ap Some (to_z-of_z w64 c.minus_of.result f ∙ c.minus_of.ensures) ∙ ap minus c.in_ok-n-2.ensures ∙ sym (first_minus k.digits k.below k.above c.in_ok-sign.sign.now c.in_ok-sign.size.now c.args.s.now (search rules) c.if-sign-eq45.true)

pub returns-else-sign-eq45 : goal.returns-else-sign-eq45
returns-else-sign-eq45 c = let k = c.args.k.now in sym (first_other k.digits k.below k.above c.in_ok-sign.sign.now c.in_ok-sign.size.now c.args.s.now (search rules) c.if-sign-eq43.false c.if-sign-eq45.false)
