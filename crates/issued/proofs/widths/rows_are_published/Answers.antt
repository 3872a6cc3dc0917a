use Rattle.std.proofs.Common.{refl}
use Rattle.issued.specs.Published.{aimidb, stdidc, acftb}
use Rattle.issued.proofs.widths.rows_are_published.Goals as goal

pub returns : goal.returns
unfolding aimidb stdidc acftb
returns c = record { fields = (refl, refl, refl); bytes = (refl, refl, refl) }
