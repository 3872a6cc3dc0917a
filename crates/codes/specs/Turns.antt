-- Codes of flights and passes: a number, or else a capital letter with a digit.
use Rattle.std.specs.Prelude.{◌≡◌, ℕ, List, Option, refl}
use Rattle.std.proofs.Common.{sym, ap, arith}
use Rattle.kind.specs.Kinds.{Laws}
use Rattle.kinds.specs.declared.layers.Both.{Both}
use Rattle.kinds.specs.declared.layers.Either.{Either}
use Rattle.kinds.specs.declared.layers.Either.TheVariants.{First, Second}
use Rattle.kinds.specs.declared.number.Number.{Number as Digits}
use Rattle.kinds.specs.Layers.{either, either_laws, seq, seq_laws}
use Rattle.kinds.specs.Numbers.{number, number_laws}
use Rattle.codes.specs.declared.turn.Turn.{Turn}
use Rattle.codes.specs.declared.turn.Turn.TheVariants.{Number, Lettered}
use Rattle.codes.specs.Letters.{letter, letter_laws}
use Rattle.kind.specs.Naming.{Names, named, names_laws}

abbrev pub Parts : Type 0
Parts = Either ℕ (Both ℕ ℕ)

-- two digits in range, or else a letter and a digit from 1 to 9
abbrev pub in_parts : ℕ → ℕ → List ℕ → Option Parts
in_parts low high s = either 2 (number 2 low high) (seq 1 1 letter (number 1 1 9)) s

abbrev pub made : Parts → Turn
made (First n) = Number n
made (Second p) = Lettered p.front p.back

abbrev pub parts : Turn → Parts
parts (Number n) = First n
parts (Lettered l d) = Second (record { front = l; back = d })

-- what a code of a flight or pass reads as
unfoldable pub turn : ℕ → ℕ → List ℕ → Option Turn
turn low high s = named made (in_parts low high s)

there : (p : Parts) → parts (made p) ≡ p
there (First n) = refl
there (Second p) = refl

back : (v : Turn) → made (parts v) ≡ v
back (Number n) = refl
back (Lettered l d) = refl

pub names : (low high : ℕ) → Names made parts (in_parts low high) (turn low high)
unfolding turn
names low high = record { same = λ s. refl; there = there; back = back }

-- two digits in this range
pub record Ranged (n : Digits) (low high : ℕ) : Type 0 where
  pub two : n.width ≡ 2
  pub least : n.low ≡ low
  pub most : n.high ≡ high

-- the digits of n, or else a letter and a digit from 1 to 9
abbrev pub or_lettered : Digits → List ℕ → Option Parts
or_lettered n s = either n.width (number n.width n.low n.high) (seq 1 1 letter (number 1 1 9)) s

pub names_with : (low high : ℕ) (n : Digits) → Ranged n low high → Names made parts (or_lettered n) (turn low high)
unfolding turn
names_with low high n x = record {
  same = λ s.
      let e : or_lettered n s ≡ in_parts low high s = rw (x.two, x.least, x.most) refl in
      ap (named made) (sym e);
  there = there;
  back = back;
}

pub parts_laws : (low high : ℕ) → Laws 2 (in_parts low high)
parts_laws low high = either_laws (number_laws 2 low high (omega arith) (omega arith)) (seq_laws letter_laws (number_laws 1 1 9 (omega arith) (omega arith)))

pub turn_laws : (low high : ℕ) → Laws 2 (turn low high)
turn_laws low high = names_laws (names low high) (parts_laws low high)
