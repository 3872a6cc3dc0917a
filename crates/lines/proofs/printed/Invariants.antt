use Rattle.std.proofs.Common.{◌≡◌, map, take, string_bytes}
use Rattle.lines.specs.Lines.{shown}
use Rattle.lines.proofs.printed.Given as goal

abbrev pub invariant-loop-b : goal.invariant-loop-b
invariant-loop-b l = string_bytes l.text ≡ map shown (take l.b-index l.b-items)
