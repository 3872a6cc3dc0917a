use Rattle.std.proofs.Common.{sym}
use Rattle.dates.specs.Kept.{given_made}
use Rattle.dates.proofs.minute.Minute.new.Goals as goal

pub returns-then-is_time : goal.returns-then-is_time
returns-then-is_time c = sym (given_made _ _ _)
