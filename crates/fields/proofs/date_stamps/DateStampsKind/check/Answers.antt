use Rattle.dates.specs.CalendarDates.{calendar_date}
use Rattle.fields.specs.Stamps.{date_stamp, stamped_date}
use Rattle.fields.proofs.Tagging.{checked}
use Rattle.fields.proofs.date_stamps.DateStampsKind.check.Goals as goal

pub returns : goal.returns
unfolding stamped_date
returns c = checked date_stamp calendar_date c.args.s.now c.check.result c.check.ensures
