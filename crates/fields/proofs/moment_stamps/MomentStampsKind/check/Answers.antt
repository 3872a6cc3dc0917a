use Rattle.dates.specs.Moments.{moment}
use Rattle.fields.specs.Stamps.{moment_stamp, stamped_moment}
use Rattle.fields.proofs.Tagging.{checked}
use Rattle.fields.proofs.moment_stamps.MomentStampsKind.check.Goals as goal

pub returns : goal.returns
unfolding stamped_moment
returns c = checked moment_stamp moment c.args.s.now c.check.result c.check.ensures
