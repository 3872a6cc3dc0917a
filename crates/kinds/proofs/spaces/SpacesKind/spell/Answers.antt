use Rattle.std.proofs.Common.{length, refl}
use Rattle.kinds.specs.Texts.{empty_laws}
use Rattle.kinds.proofs.Blanking.{all_empty}
use Rattle.kinds.proofs.Fits.{misfit}
use Rattle.kinds.proofs.spaces.SpacesKind.spell.Goals as goal

pub returns-then-out-self : goal.returns-then-out-self
returns-then-out-self c =
    let k = c.args.self.now in
    (c.no_reading.ensures, refl, misfit (empty_laws k.width k.some k.few) c.args.out.now c.args.value.now c.if-out-self.true)

pub returns : goal.returns
returns c = all_empty c.args.self.now.width _ (length c.args.out.now) (c.fill.ensures.after (λ y e. e)) c.if-out-self.false
