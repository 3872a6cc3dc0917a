-- Replay codes: the word 000, or else a mode with a number from 01 to 99.
use Rattle.std.specs.Prelude.{◌≡◌, ℕ, List, [], ◌∷◌, length, Some, Option, refl}
use Rattle.std.proofs.Common.{arith}
use Rattle.kind.specs.Kinds.{Laws}
use Rattle.kinds.specs.declared.layers.Both.{Both}
use Rattle.kinds.specs.declared.layers.Either.{Either}
use Rattle.kinds.specs.declared.layers.Either.TheVariants.{First, Second}
use Rattle.kinds.specs.Layers.{either, either_laws, seq, seq_laws}
use Rattle.kinds.specs.Numbers.{number, number_laws}
use Rattle.kinds.specs.Texts.{word, word_laws}
use Rattle.codes.specs.declared.replay.Mode.{Mode}
use Rattle.codes.specs.declared.replay.Mode.TheVariants.{G, P, T}
use Rattle.codes.specs.declared.replay.Replay.{Replay}
use Rattle.codes.specs.declared.replay.Replay.TheVariants.{Original, Again}
use Rattle.kinds.specs.Listing.{Spelt, listed, listed_laws, apart_in}
use Rattle.kind.specs.Naming.{Names, named, names_laws}

abbrev pub letters : Mode → List ℕ
letters G = 71 ∷ []
letters P = 80 ∷ []
letters T = 84 ∷ []

abbrev pub modes : List Mode
modes = G ∷ P ∷ T ∷ []

long : (m : Mode) → length (letters m) ≡ 1
long G = refl
long P = refl
long T = refl

found : (m : Mode) → listed letters modes (letters m) ≡ Some m
found G = refl
found P = refl
found T = refl

pub spelt : Spelt 1 letters
spelt = record { low = omega arith; high = omega arith; long = long; apart = apart_in letters modes found }

-- the word 000
abbrev pub zeros : List ℕ
zeros = 48 ∷ 48 ∷ 48 ∷ []

abbrev pub Parts : Type 0
Parts = Either (Unit {0}) (Both Mode ℕ)

abbrev pub in_parts : List ℕ → Option Parts
in_parts s = either 3 (word zeros) (seq 1 2 (listed letters modes) (number 2 1 99)) s

abbrev pub made : Parts → Replay
made (First u) = Original
made (Second p) = Again p.front p.back

abbrev pub parts : Replay → Parts
parts Original = First tt
parts (Again m n) = Second (record { front = m; back = n })

unfoldable pub replay : List ℕ → Option Replay
replay s = named made (in_parts s)

there : (p : Parts) → parts (made p) ≡ p
there (First u) = refl
there (Second p) = refl

back : (v : Replay) → made (parts v) ≡ v
back Original = refl
back (Again m n) = refl

pub names : Names made parts in_parts replay
unfolding replay
names = record { same = λ s. refl; there = there; back = back }

pub parts_laws : Laws 3 in_parts
parts_laws = either_laws (word_laws zeros (omega arith) (omega arith)) (seq_laws (listed_laws spelt modes) (number_laws 2 1 99 (omega arith) (omega arith)))

pub replay_laws : Laws 3 replay
replay_laws = names_laws names parts_laws
