-- The segment that ends an operation: two capitals, or else the word 00.
use Rattle.std.specs.Prelude.{ℕ, List, codes, Option}
use Rattle.std.proofs.Common.{arith}
use Rattle.kind.specs.Kinds.{Laws}
use Rattle.kinds.specs.declared.capital.Letters.{Letters}
use Rattle.kinds.specs.declared.layers.Either.{Either}
use Rattle.kinds.specs.declared.layers.Either.TheVariants.{First, Second}
use Rattle.kinds.specs.Layers.{either, either_laws, seen_either}
use Rattle.kinds.specs.Texts.{capitals, capitals_laws, word, word_laws}
use Rattle.fields.specs.declared.segment.EndSegment.{EndSegment}
use Rattle.fields.specs.declared.segment.EndSegment.TheVariants.{Known, Unknown}

-- the letters, or the word
abbrev pub Ending : Type 0
Ending = Either (List ℕ) (Unit {0})

abbrev pub seen_parts : Either Letters (Unit {0}) → Ending
seen_parts = seen_either (λ l. l.0.now) (λ u. u)

abbrev pub seen_segment : EndSegment → Ending
seen_segment (Known l) = First l.0.now
seen_segment Unknown = Second tt

unfoldable pub segment : List ℕ → Option Ending
segment = either 2 (capitals 2) (word (codes "00"))

pub segment_laws : Laws 2 segment
unfolding segment
segment_laws = either_laws (capitals_laws 2 (omega arith) (omega arith)) (word_laws (codes "00") (omega arith) (omega arith))
