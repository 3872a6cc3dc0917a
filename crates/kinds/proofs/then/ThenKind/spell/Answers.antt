use Rattle.std.proofs.Common.{refl, arith, rules}
use Rattle.std.proofs.lemmas.Result.{err_from_is_err_and}
use Rattle.kinds.specs.Layers.{seen_both}
use Rattle.kinds.proofs.Sequels.{seq_misfit, seq_spelled, seq_back_none}
use Rattle.kinds.proofs.then.ThenKind.spell.Goals as goal

pub returns-then-out-width : goal.returns-then-out-width
returns-then-out-width g c = (
  c.no_reading.ensures,
  refl,
  λ s e h.
      let k = g.K.Kind.laws c.args.self.now.first in
      let l = g.L.Kind.laws c.args.self.now.second in
      seq_misfit k l s (rw (c.width-at.ensures, c.width.ensures, ← e) at c.then-out-width.either) (seen_both g.K.Kind.view g.L.Kind.view c.args.value.now) h,
)

pub returns-in_err-spell-2 : goal.returns-in_err-spell-2
returns-in_err-spell-2 g c =
    let k = g.K.Kind.laws c.args.self.now.first in
    let l = g.L.Kind.laws c.args.self.now.second in
    let p = err_from_is_err_and c.from_residual-in_err-spell-2.result c.from_residual-in_err-spell-2.ensures.1 in
    let b = c.in_err-spell-2.ensures in
    rw (p.1, p.2) (b.0, refl, λ s e h. seq_back_none k l s (seen_both g.K.Kind.view g.L.Kind.view c.args.value.now) (λ t n q. b.2 t (search rules) q) h)

pub returns : goal.returns
returns g c =
    let k = g.K.Kind.laws c.args.self.now.first in
    let l = g.L.Kind.laws c.args.self.now.second in
    rw c.put_two.ensures (seq_spelled k l _ _ (seen_both g.K.Kind.view g.L.Kind.view c.args.value.now) (omega arith) c.in_ok-spell.ensures c.in_ok-spell-2.ensures)
