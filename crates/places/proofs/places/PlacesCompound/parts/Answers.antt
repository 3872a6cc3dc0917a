use Rattle.std.proofs.Common.{refl}
use Rattle.kinds.proofs.Named.{agrees, seen}
use Rattle.places.proofs.places.PlacesCompound.parts.Goals as goal

pub returns : goal.returns
returns c = agrees refl (seen (λ _. refl) (λ _. refl)) (λ s. rw (c.of-3.ensures, c.of-4.ensures) refl)
