use Rattle.std.proofs.Common.{◌≡◌, List, ◌++◌, drop, string_bytes}
use Rattle.std.specs.List.{AllByRecursion}
use Rattle.model.specs.Records.{Record}
use Rattle.report.specs.Entries.{Laid, Opens, entries_lines}
use Rattle.report.proofs.Source.field_text.Given as goal

abbrev pub invariant-loop-field : goal.invariant-loop-field
invariant-loop-field l = (k : List Record) → Laid l.self.bytes.now k → AllByRecursion (Opens k) l.fields → string_bytes l.text ++ entries_lines k (drop l.field-index l.fields) ≡ entries_lines k l.fields
