use Rattle.std.proofs.Common.{◌-◌, length, drop, sym, refl, ◌∙◌, arith, length-drop}
use borrow.Rule.Slice.PartMut.{put_same}
use Rattle.std.proofs.lemmas.List.{take_rest}
use Rattle.std.proofs.lemmas.Result.{err_from_is_err_and}
use Rattle.kinds.specs.Numbers.{number}
use Rattle.kinds.proofs.Signing.{led_is, led_put, led_long}
use Rattle.kinds.proofs.signs.put_signed.Goals as goal

pub returns-then-out-k : goal.returns-then-out-k
returns-then-out-k c =
    let k = c.args.k.now in
    (c.no_reading.ensures, refl, λ s l e. c.if-out-k.true (sym l ∙ led_long k.width k.low k.high c.args.sign s c.args.size c.requires e))

pub returns-in_err-spell : goal.returns-in_err-spell
returns-in_err-spell c =
    let k = c.args.k.now in
    let p = err_from_is_err_and c.from_residual.result c.from_residual.ensures.1 in
    let b = c.in_err-spell.ensures in
    rw (p.1, p.2) (
      b.0,
      rw b.1 (put_same 1 (length c.args.out.now - 1) c.args.out.now),
      λ s l e.
          let q = led_is (number k.width k.low k.high) c.args.sign s c.args.size e in
          b.2 (drop 1 s) (rw take_rest (simp length-drop (omega arith))) q.1,
    )

pub returns : goal.returns
returns c =
    let k = c.args.k.now in
    led_put (number k.width k.low k.high) c.args.sign c.args.out.now c.spell.new.out c.args.size (omega arith) c.in_ok-spell.ensures
