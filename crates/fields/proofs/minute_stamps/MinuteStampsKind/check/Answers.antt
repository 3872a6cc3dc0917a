use Rattle.dates.specs.Minutes.{minute}
use Rattle.fields.specs.Stamps.{minute_stamp, stamped_minute}
use Rattle.fields.proofs.Tagging.{checked}
use Rattle.fields.proofs.minute_stamps.MinuteStampsKind.check.Goals as goal

pub returns : goal.returns
unfolding stamped_minute
returns c = checked minute_stamp minute c.args.s.now c.check.result c.check.ensures
