-- Mission numbers: a project with a number, or else the word UNKN.
use Rattle.std.specs.Prelude.{◌≡◌, ℕ, List, [], ◌∷◌, Option, refl}
use Rattle.std.proofs.Common.{arith}
use Rattle.kind.specs.Kinds.{Laws}
use Rattle.kinds.specs.declared.layers.Both.{Both}
use Rattle.kinds.specs.declared.layers.Either.{Either}
use Rattle.kinds.specs.declared.layers.Either.TheVariants.{First, Second}
use Rattle.kinds.specs.Layers.{either, either_laws, seq, seq_laws}
use Rattle.kinds.specs.Numbers.{number, number_laws}
use Rattle.kinds.specs.Texts.{word, word_laws}
use Rattle.codes.specs.declared.project.Project.{Project}
use Rattle.codes.specs.declared.mission.Mission.{Mission}
use Rattle.codes.specs.declared.mission.Mission.TheVariants.{Numbered, Unknown}
use Rattle.kind.specs.Naming.{Names, named, names_laws}
use Rattle.codes.specs.Projects.{project, project_laws}

-- the word UNKN
abbrev pub unknown : List ℕ
unknown = 85 ∷ 78 ∷ 75 ∷ 78 ∷ []

abbrev pub Parts : Type 0
Parts = Either (Both Project ℕ) (Unit {0})

-- a project and two digits, or else UNKN
abbrev pub in_parts : List ℕ → Option Parts
in_parts s = either 4 (seq 2 2 project (number 2 0 99)) (word unknown) s

abbrev pub made : Parts → Mission
made (First p) = Numbered p.front p.back
made (Second u) = Unknown

abbrev pub parts : Mission → Parts
parts (Numbered p n) = First (record { front = p; back = n })
parts Unknown = Second tt

-- what the number of a mission reads as
unfoldable pub mission : List ℕ → Option Mission
mission s = named made (in_parts s)

there : (p : Parts) → parts (made p) ≡ p
there (First p) = refl
there (Second u) = refl

back : (v : Mission) → made (parts v) ≡ v
back (Numbered p n) = refl
back Unknown = refl

pub names : Names made parts in_parts mission
unfolding mission
names = record { same = λ s. refl; there = there; back = back }

pub parts_laws : Laws 4 in_parts
parts_laws = either_laws (seq_laws project_laws (number_laws 2 0 99 (omega arith) (omega arith))) (word_laws unknown (omega arith) (omega arith))

pub mission_laws : Laws 4 mission
mission_laws = names_laws names parts_laws
