-- Dates of eight digits.
use Rattle.std.specs.Prelude.{◌≡◌, ℕ, Bool, true, List, Option, refl}
use Rattle.std.proofs.Common.{arith}
use Rattle.kind.specs.Compounds.{Composed, composed_laws}
use Rattle.kind.specs.Kinds.{Laws}
use Rattle.kind.specs.Naming.{built, Builds}
use Rattle.kinds.specs.declared.layers.Both.{Both}
use Rattle.kinds.specs.Layers.{seq, seq_laws}
use Rattle.kinds.specs.Numbers.{number, number_laws}
use Rattle.dates.specs.declared.date.Date.{Date}
use Rattle.dates.specs.Days.{is_day, is_day_within}
use Rattle.dates.specs.Kept.{given, given_builds, Kept, kept_by, number_kept, seq_kept, kept_composed}

-- the date with a year, a month and a day, where there is such a day
abbrev pub date_of : ℕ → ℕ → ℕ → Option Date
date_of y m d = given (is_day y m d) (λ e. record { year = y; month = m; day = d; ok = e })

abbrev pub Parts : Type 0
Parts = Both ℕ (Both ℕ ℕ)

abbrev pub in_parts : List ℕ → Option Parts
in_parts s = seq 4 4 (number 4 0 9999) (seq 2 2 (number 2 0 99) (number 2 0 99)) s

abbrev pub make : Parts → Option Date
make p = date_of p.front p.back.front p.back.back

-- whether there is a day of these parts, and which
abbrev pub there_is : Parts → Bool
there_is p = is_day p.front p.back.front p.back.back

abbrev pub at : (p : Parts) → there_is p ≡ true → Date
at p e = record { year = p.front; month = p.back.front; day = p.back.back; ok = e }

abbrev pub parts : Date → Parts
parts v = record { front = v.year; back = record { front = v.month; back = v.day } }

-- what eight digits of a date read as
unfoldable pub date : List ℕ → Option Date
date s = built make (in_parts s)

pub builds : Builds make parts in_parts date
unfolding date
builds = given_builds there_is at (λ p e. refl) (λ v. v.ok) (λ v. refl) in_parts

-- the parts of days that there are
abbrev pub in_range : List ℕ → Option Parts
in_range s = seq 4 4 (number 4 0 9999) (seq 2 2 (number 2 1 12) (number 2 1 31)) s

kept : Kept there_is in_parts in_range
kept = kept_by (λ p. is_day_within p.front p.back.front p.back.back) (seq_kept (number_kept 4 0 9999 0 9999 (omega arith) (omega arith)) (seq_kept (number_kept 2 0 99 1 12 (omega arith) (omega arith)) (number_kept 2 0 99 1 31 (omega arith) (omega arith)) 2 2) 4 4)

pub composed : Composed 8 make parts in_range date
composed = kept_composed there_is at builds kept (seq_laws (number_laws 4 0 9999 (omega arith) (omega arith)) (seq_laws (number_laws 2 1 12 (omega arith) (omega arith)) (number_laws 2 1 31 (omega arith) (omega arith))))

pub date_laws : Laws 8 date
date_laws = composed_laws composed
