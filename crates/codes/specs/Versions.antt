-- Versions of software: four digits, a point, two digits.
use Rattle.std.specs.Prelude.{ℕ, List, [], ◌∷◌, Option, refl}
use Rattle.std.proofs.Common.{arith}
use Rattle.kind.specs.Kinds.{Laws}
use Rattle.kinds.specs.declared.layers.Both.{Both}
use Rattle.kinds.specs.Layers.{seq, seq_laws}
use Rattle.kinds.specs.Numbers.{number, number_laws}
use Rattle.kinds.specs.Texts.{word, word_laws}
use Rattle.codes.specs.declared.version.Version.{Version}
use Rattle.kind.specs.Naming.{Names, named, names_laws}

-- a point
abbrev pub dot : List ℕ
dot = 46 ∷ []

abbrev pub Parts : Type 0
Parts = Both ℕ (Both (Unit {0}) ℕ)

-- four digits, a point, two digits
abbrev pub in_parts : List ℕ → Option Parts
in_parts s = seq 4 3 (number 4 0 9999) (seq 1 2 (word dot) (number 2 0 99)) s

abbrev pub made : Parts → Version
made p = record { release = p.front; change = p.back.back }

abbrev pub parts : Version → Parts
parts v = record { front = v.release; back = record { front = tt; back = v.change } }

-- what the version of software reads as
unfoldable pub version : List ℕ → Option Version
version s = named made (in_parts s)

pub names : Names made parts in_parts version
unfolding version
names = record { same = λ s. refl; there = λ p. refl; back = λ v. refl }

pub parts_laws : Laws 7 in_parts
parts_laws = seq_laws (number_laws 4 0 9999 (omega arith) (omega arith)) (seq_laws (word_laws dot (omega arith) (omega arith)) (number_laws 2 0 99 (omega arith) (omega arith)))

pub version_laws : Laws 7 version
version_laws = names_laws names parts_laws
