use Rattle.std.proofs.Common.{pos, neg_ℤ, sym, ap, ◌∙◌, w64, SFits, rules}
use Rattle.std.proofs.lemmas.Int.{to_z-of_z}
use Rattle.kinds.proofs.Signing.{below_zero, from_zero, plus_spelled, minus_spelled}
use Rattle.kinds.proofs.signs.SignedKind.spell.Goals as goal

pub returns-then-v-lt0 : goal.returns-then-v-lt0
returns-then-v-lt0 c =
    let k = c.args.self.now in
    let v = c.args.value.now in
    let n = c.unsigned_abs-size.result in
    let f : SFits w64 v = search rules in
    let t = to_z-of_z w64 v f in
    let z = rw t at c.unsigned_abs-size.ensures.value in
    let p = below_zero v (rw t at c.if-v-lt0.true) in
    minus_spelled k.digits k.below k.above v n c.args.out.now c.put_signed.new.out (rw z p.1) (p.0 ∙ ap (λ m. neg_ℤ (pos m)) (sym z)) c.put_signed.result c.put_signed.ensures

pub returns-else-v-lt0 : goal.returns-else-v-lt0
returns-else-v-lt0 c =
    let k = c.args.self.now in
    let v = c.args.value.now in
    let n = c.unsigned_abs-size.result in
    let f : SFits w64 v = search rules in
    let t = to_z-of_z w64 v f in
    let z = rw t at c.unsigned_abs-size.ensures.value in
    plus_spelled k.digits k.below k.above v n c.args.out.now c.put_signed-else-v-lt0.new.out (from_zero v (rw t at c.if-v-lt0.false) ∙ ap pos (sym z)) c.put_signed-else-v-lt0.result c.put_signed-else-v-lt0.ensures
