use Rattle.std.proofs.Common.{sym, refl, ◌∙◌, arith}
use Rattle.kinds.specs.Numbers.{number_is, number_under, number_spelled}
use Rattle.kinds.proofs.numbers.NumberKind.spell.Goals as goal
use Rattle.kinds.proofs.numbers.NumberKind.spell.Goals.{then-out-self-via-then-out-self, then-out-self-via-else-out-self+then-n-self, then-out-self-via-else-out-self+else-n-self+then-n-self-2, then-out-self-via-else-out-self+else-n-self+else-n-self-2+then-n-pow}

pub returns-then-out-self : goal.returns-then-out-self
returns-then-out-self c = (
  c.no_reading.ensures,
  refl,
  λ s l e.
      let k = c.args.self.now in
      let p = number_is k.width k.low k.high s c.args.value.now e in
      let u = number_under k.width k.low k.high s c.args.value.now e in
      elim c.then-out-self.branch [
        | then-out-self-via-then-out-self w ↦ w.if-out-self.true (sym l ∙ p.long)
        | then-out-self-via-else-out-self+then-n-self w ↦ omega arith
        | then-out-self-via-else-out-self+else-n-self+then-n-self-2 w ↦ omega arith
        | then-out-self-via-else-out-self+else-n-self+else-n-self-2+then-n-pow w ↦ omega arith
      ],
)

pub returns : goal.returns
returns c =
    let k = c.args.self.now in
    number_spelled k.width k.low k.high c.args.value.now _ (c.put_digits.ensures ∙ rw c.if-out-self.false refl) (omega arith) (omega arith) (omega arith)
