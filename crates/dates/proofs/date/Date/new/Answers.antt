use Rattle.std.proofs.Common.{sym}
use Rattle.dates.specs.Kept.{given_made}
use Rattle.dates.proofs.date.Date.new.Goals as goal

pub returns-then-is_day : goal.returns-then-is_day
returns-then-is_day c = sym (given_made _ _ _)
