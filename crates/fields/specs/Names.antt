-- Names: a word that says there is none, or else text of the word's width.
use Rattle.std.specs.Prelude.{ℕ, ◌≤◌, List, length, Option}
use Rattle.kind.specs.Kinds.{Laws}
use Rattle.kinds.specs.declared.layers.Either.{Either}
use Rattle.kinds.specs.declared.layers.Either.TheVariants.{First, Second}
use Rattle.kinds.specs.declared.text.TextBytes.{TextBytes}
use Rattle.kinds.specs.Layers.{either, either_laws, seen_either}
use Rattle.kinds.specs.Texts.{text, text_laws, word, word_laws}
use Rattle.fields.specs.declared.name.Name.{Name}
use Rattle.fields.specs.declared.name.Name.TheVariants.{Unavailable, Given}

-- the word, or the text
abbrev pub Named : Type 0
Named = Either (Unit {0}) (List ℕ)

abbrev pub seen_parts : Either (Unit {0}) TextBytes → Named
seen_parts = seen_either (λ u. u) (λ t. t.0.now)

abbrev pub seen_name : Name → Named
seen_name Unavailable = First tt
seen_name (Given t) = Second t.0.now

unfoldable pub named : List ℕ → List ℕ → Option Named
named w = either (length w) (word w) (text (length w))

pub named_laws : (w : List ℕ) → 1 ≤ length w → length w ≤ 999 → Laws (length w) (named w)
unfolding named
named_laws w a b = either_laws (word_laws w a b) (text_laws (length w) a b)
