use Rattle.std.proofs.Common.{rules}
use Rattle.kinds.specs.Texts.{text}
use Rattle.kinds.proofs.texts.TextKind.check.Goals as goal

pub returns-then-is_text : goal.returns-then-is_text
unfolding text
returns-then-is_text c = (c.args.s.now, search rules)

pub returns-else-is_text : goal.returns-else-is_text
unfolding text
returns-else-is_text c = search rules
