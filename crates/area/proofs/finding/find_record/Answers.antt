use Rattle.std.proofs.Common.{◌≡◌, ◌+◌, length, ◌∙◌, arith}
use Rattle.area.proofs.Going.{ahead_all, nth_within, nth_found}
use Rattle.area.proofs.finding.find_record.Goals as goal

pub returns-clause-within : goal.returns-clause-within
returns-clause-within c = let n = c.new.ensures in let z : 0 + length c.args.bytes.all.now ≡ length c.args.bytes.all.now = omega arith in rw (n.1, n.2, z) at (nth_within c.new.result c.nth.new.self c.args.n c.nth.result c.nth.ensures.ran)

pub returns-clause-finds : goal.returns-clause-finds
returns-clause-finds c = λ l so e. let n = c.new.ensures in nth_found l so c.new.result c.nth.new.self c.args.n c.nth.result n.0 (ahead_all l c.new.result (n.0, n.1, n.2 ∙ e)) c.nth.ensures.ran
