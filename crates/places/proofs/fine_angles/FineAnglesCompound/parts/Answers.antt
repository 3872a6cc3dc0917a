use Rattle.std.proofs.Common.{refl, ap, ap₂}
use Rattle.kinds.specs.Layers.{seq_wide}
use Rattle.kinds.proofs.Named.{agrees}
use Rattle.places.specs.FineAngles.{in_parts}
use Rattle.places.proofs.fine_angles.FineAnglesCompound.parts.Goals as goal

pub returns : goal.returns
returns g c = agrees (ap (λ w. seq_wide w 10) c.WIDTH.ensures) (λ a. refl) (λ s. ap₂ (λ w high. in_parts w high g.S.Side.letters g.S.Side.both s) c.WIDTH.ensures c.HIGH.ensures)
