use Rattle.std.proofs.Common.{refl}
use Rattle.kinds.proofs.Named.{agrees, seen}
use Rattle.dates.proofs.calendar_dates.CalendarDatesCompound.parts.Goals as goal

pub returns : goal.returns
returns c = agrees refl (seen (λ _. refl) (λ _. refl)) (λ s. refl)
