use Rattle.std.proofs.Common.{arith, rules}
use Rattle.area.proofs.Rises.{above, below}
use Rattle.area.proofs.search.search.Goals as goal

pub loop-lo-preserved-then-n-s : goal.loop-lo-preserved-then-n-s
loop-lo-preserved-then-n-s g c =
    (omega arith, c.loop-lo.invariant.1, λ ris. above g.S.Spanned.from g.S.Spanned.wide c.args.parts.now c.args.n _ c.index-parts-mid.result ris (omega arith) c.index-parts-mid.is (search rules))

pub loop-lo-preserved : goal.loop-lo-preserved
loop-lo-preserved g c =
    (omega arith, λ ris. below g.S.Spanned.from g.S.Spanned.wide c.args.parts.now c.args.n _ c.index-parts-mid.result ris (omega arith) c.index-parts-mid.is (search rules), c.loop-lo.invariant.2)
