use Rattle.std.proofs.Common.{◌+◌, ◌-◌, ◌*◌, ◌^◌, ◌<◌, get_or, sym, ◌∙◌, arith}
use Rattle.std.proofs.lemmas.List.{at_drop_more, at_drop_all}
use Rattle.kinds.proofs.Horner.{after, after_is, tens, ten_more, figure_at}
use Rattle.kinds.proofs.digits.value_of.Goals as goal

pub overflow_mul-sum : goal.overflow_mul-sum
overflow_mul-sum c = omega (arith, tens c.loop-b.b-index 17 (omega arith), c.loop-b.invariant.2)

pub overflow_sub-b : goal.overflow_sub-b
overflow_sub-b c = omega (arith, (figure_at c.args.s.now c.loop-b.b-index (omega arith) c.loop-b.invariant.1).0)

pub overflow_add-sum : goal.overflow_add-sum
overflow_add-sum c = omega (arith, tens c.loop-b.b-index 17 (omega arith), c.loop-b.invariant.2, (figure_at c.args.s.now c.loop-b.b-index (omega arith) c.loop-b.invariant.1).1)

pub loop-b-preserved : goal.loop-b-preserved
loop-b-preserved c =
    let s = c.args.s.now in
    let i = c.loop-b.b-index in
    let f = figure_at s i (omega arith) c.loop-b.invariant.1 in
    let p : c.loop-b.sum * 10 + (get_or s i 0 - 48) < 10 ^ (i + 1) = omega (arith, ten_more i, f.1, c.loop-b.invariant.2) in
    rw c.from.ensures (sym (at_drop_more (after c.loop-b.sum) s i 0 (omega arith)) ∙ c.loop-b.invariant.0, f.2, p)

pub returns : goal.returns
returns c =
    let s = c.args.s.now in
    let e = at_drop_all (after c.loop-b.sum) s c.loop-b.b-index (omega arith) in
    let v = after_is 0 s in
    omega (arith, e, v, c.loop-b.invariant.0)
