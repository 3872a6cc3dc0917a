use Rattle.std.proofs.Common.{◌≡◌, ◌+◌, ◌-◌, length, Some, sym, refl, ap, ◌∙◌, mod-lt, arith}
use Rattle.kinds.specs.Digits.{ten_pos}
use Rattle.kinds.specs.Points.{point_is, point_parts, point_under, point_spelled}
use Rattle.kinds.proofs.points.PointKind.spell.Goals as goal
use Rattle.kinds.proofs.points.PointKind.spell.Goals.{then-out-at-via-then-out-at, then-out-at-via-else-out-at+then-value-self, then-out-at-via-else-out-at+else-value-self+then-n-self, then-out-at-via-else-out-at+else-value-self+else-n-self+then-n-self-2}

pub returns-then-out-at : goal.returns-then-out-at
returns-then-out-at c =
    let k = c.args.self.now in (
      c.no_reading.ensures,
      refl,
      λ s l e.
          let p = point_is k.whole k.places k.low k.high s c.args.value.now e in
          let q = point_parts k.whole k.places k.low k.high s c.args.value.now e in
          elim c.then-out-at.branch [
            | then-out-at-via-then-out-at w ↦ w.if-out-at.true (sym l ∙ p.long)
            | then-out-at-via-else-out-at+then-value-self w ↦ w.if-value-self.true q.3
            | then-out-at-via-else-out-at+else-value-self+then-n-self w ↦ omega arith
            | then-out-at-via-else-out-at+else-value-self+else-n-self+then-n-self-2 w ↦ omega arith
          ],
    )

pub nonzero_div-n : goal.nonzero_div-n
nonzero_div-n c = rw c.pow-power.ensures (ten_pos c.args.self.now.places)

pub nonzero_div-n-2 : goal.nonzero_div-n-2
nonzero_div-n-2 c = rw c.pow-power.ensures (ten_pos c.args.self.now.places)

pub nonzero_rem-n : goal.nonzero_rem-n
nonzero_rem-n c = rw c.pow-power.ensures (ten_pos c.args.self.now.places)

pub returns-then-n-power : goal.returns-then-n-power
returns-then-n-power c =
    let k = c.args.self.now in (
      c.no_reading-then-n-power.ensures,
      refl,
      λ s l e.
          let u = point_under k.whole k.places k.low k.high s c.args.value.now e in
          let t = rw (c.pow.ensures, c.pow-power.ensures) at c.if-n-power.true in
          omega arith,
    )

pub put_point-requires : goal.put_point-requires
put_point-requires c =
    let k = c.args.self.now in
    let q : length c.args.out.now - (k.whole + 1) ≡ k.places = omega arith in
    record {
      room = omega arith;
      short = omega arith;
      first = rw c.pow.ensures at c.if-n-power.false;
      second = rw (q, c.pow-power.ensures) (mod-lt c.args.value.now.digits (ten_pos k.places));
    }

pub returns : goal.returns
returns c =
    let k = c.args.self.now in
    let v = c.args.value.now in
    let q : length c.args.out.now - (k.whole + 1) ≡ k.places = omega arith in
    point_spelled k.whole k.places k.low k.high v.digits c.put_point.new.out (rw (q, c.pow-power.ensures) at c.put_point.ensures) (rw (c.pow.ensures, c.pow-power.ensures) at c.if-n-power.false) c.if-n-self.false c.if-n-self-2.false
    ∙ ap (λ p. Some (record { digits = v.digits; places = p })) (sym c.if-value-self.false)
