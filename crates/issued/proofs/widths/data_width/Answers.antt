use Rattle.std.proofs.Common.{◌≤◌, length, sym, subst}
use Rattle.issued.proofs.Places.{few}
use Rattle.issued.proofs.widths.data_width.Goals as goal

pub sum-requires : goal.sum-requires
sum-requires c = subst (λ rs. length rs ≤ 64) (sym c.in_ok-rows_of.ensures) (few c.args.tag.now)
