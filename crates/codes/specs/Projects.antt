-- The project of a mission: two capital letters, or else the word U0.
use Rattle.std.specs.Prelude.{◌≡◌, ℕ, List, [], ◌∷◌, Option, refl}
use Rattle.std.proofs.Common.{arith}
use Rattle.kind.specs.Kinds.{Laws}
use Rattle.kinds.specs.declared.layers.Both.{Both}
use Rattle.kinds.specs.declared.layers.Either.{Either}
use Rattle.kinds.specs.declared.layers.Either.TheVariants.{First, Second}
use Rattle.kinds.specs.Layers.{either, either_laws, seq, seq_laws}
use Rattle.kinds.specs.Texts.{word, word_laws}
use Rattle.codes.specs.declared.project.Project.{Project}
use Rattle.codes.specs.declared.project.Project.TheVariants.{Letters, Unknown}
use Rattle.codes.specs.Letters.{letter, letter_laws}
use Rattle.kind.specs.Naming.{Names, named, names_laws}

-- the word U0
abbrev pub nought : List ℕ
nought = 85 ∷ 48 ∷ []

abbrev pub Parts : Type 0
Parts = Either (Both ℕ ℕ) (Unit {0})

-- two letters, or else U0
abbrev pub in_parts : List ℕ → Option Parts
in_parts s = either 2 (seq 1 1 letter letter) (word nought) s

abbrev pub made : Parts → Project
made (First p) = Letters p.front p.back
made (Second u) = Unknown

abbrev pub parts : Project → Parts
parts (Letters a b) = First (record { front = a; back = b })
parts Unknown = Second tt

-- what the code of a project reads as
unfoldable pub project : List ℕ → Option Project
project s = named made (in_parts s)

there : (p : Parts) → parts (made p) ≡ p
there (First p) = refl
there (Second u) = refl

back : (v : Project) → made (parts v) ≡ v
back (Letters a b) = refl
back Unknown = refl

pub names : Names made parts in_parts project
unfolding project
names = record { same = λ s. refl; there = there; back = back }

pub parts_laws : Laws 2 in_parts
parts_laws = either_laws (seq_laws letter_laws letter_laws) (word_laws nought (omega arith) (omega arith))

pub project_laws : Laws 2 project
project_laws = names_laws names parts_laws
