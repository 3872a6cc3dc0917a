-- Dates of eight digits whose day may be 00.
use Rattle.std.specs.Prelude.{◌≡◌, ℕ, List, [], ◌∷◌, Option, refl}
use Rattle.std.proofs.Common.{arith}
use Rattle.kind.specs.Kinds.{Laws}
use Rattle.kinds.specs.declared.layers.Both.{Both}
use Rattle.kinds.specs.declared.layers.Either.{Either}
use Rattle.kinds.specs.declared.layers.Either.TheVariants.{First, Second}
use Rattle.kinds.specs.Layers.{either, either_laws, seq, seq_laws}
use Rattle.kinds.specs.Numbers.{number, number_laws}
use Rattle.kinds.specs.Texts.{word, word_laws}
use Rattle.dates.specs.declared.calendar.CalendarDate.{CalendarDate}
use Rattle.dates.specs.declared.calendar.CalendarDate.TheVariants.{Day, Month}
use Rattle.dates.specs.declared.date.Date.{Date}
use Rattle.dates.specs.Dates.{date, date_laws}
use Rattle.kind.specs.Naming.{Names, named, names_laws}

-- the word 00
abbrev pub nought : List ℕ
nought = 48 ∷ 48 ∷ []

abbrev pub Parts : Type 0
Parts = Either Date (Both ℕ (Both ℕ (Unit {0})))

-- a date, or else a year, a month and 00
abbrev pub in_parts : List ℕ → Option Parts
in_parts s = either 8 date (seq 4 4 (number 4 0 9999) (seq 2 2 (number 2 1 12) (word nought))) s

abbrev pub made : Parts → CalendarDate
made (First d) = Day d
made (Second p) = Month p.front p.back.front

abbrev pub parts : CalendarDate → Parts
parts (Day d) = First d
parts (Month y m) = Second (record { front = y; back = record { front = m; back = tt } })

-- what a date whose day may be 00 reads as
unfoldable pub calendar_date : List ℕ → Option CalendarDate
calendar_date s = named made (in_parts s)

there : (p : Parts) → parts (made p) ≡ p
there (First d) = refl
there (Second p) = refl

back : (v : CalendarDate) → made (parts v) ≡ v
back (Day d) = refl
back (Month y m) = refl

pub names : Names made parts in_parts calendar_date
unfolding calendar_date
names = record { same = λ s. refl; there = there; back = back }

pub parts_laws : Laws 8 in_parts
parts_laws = either_laws date_laws (seq_laws (number_laws 4 0 9999 (omega arith) (omega arith)) (seq_laws (number_laws 2 1 12 (omega arith) (omega arith)) (word_laws nought (omega arith) (omega arith))))

pub calendar_date_laws : Laws 8 calendar_date
calendar_date_laws = names_laws names parts_laws
