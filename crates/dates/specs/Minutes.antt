-- A minute of a day, in 12 digits.
use Rattle.std.specs.Prelude.{◌≡◌, ℕ, Bool, true, List, Option, refl}
use Rattle.kind.specs.Compounds.{Composed, composed_laws}
use Rattle.kind.specs.Kinds.{Laws}
use Rattle.kind.specs.Naming.{built, Builds}
use Rattle.kinds.specs.declared.layers.Both.{Both}
use Rattle.kinds.specs.Layers.{seq, seq_laws}
use Rattle.kinds.specs.Numbers.{number}
use Rattle.dates.specs.declared.date.Date.{Date}
use Rattle.dates.specs.declared.minute.Minute.{Minute}
use Rattle.dates.specs.Dates.{date, date_laws}
use Rattle.dates.specs.Days.{is_time, is_minute_within}
use Rattle.dates.specs.Kept.{given, given_builds, Kept, kept_by, all_kept, seq_kept, sixty_kept, sixty_laws, hour_kept, hour_laws, kept_composed}

-- the minute of a date at a time of day, where there is such a time
abbrev pub minute_of : Date → ℕ → ℕ → Option Minute
minute_of d h i = given (is_time h i 0) (λ e. record { date = d; hour = h; minute = i; ok = e })

abbrev pub Parts : Type 0
Parts = Both Date (Both ℕ ℕ)

abbrev pub in_parts : List ℕ → Option Parts
in_parts s = seq 8 4 date (seq 2 2 (number 2 0 99) (number 2 0 99)) s

abbrev pub make : Parts → Option Minute
make p = minute_of p.front p.back.front p.back.back

-- whether there is a minute of these parts, and which
abbrev pub there_is : Parts → Bool
there_is p = is_time p.back.front p.back.back 0

abbrev pub at : (p : Parts) → there_is p ≡ true → Minute
at p e = record { date = p.front; hour = p.back.front; minute = p.back.back; ok = e }

abbrev pub parts : Minute → Parts
parts v = record { front = v.date; back = record { front = v.hour; back = v.minute } }

-- what 12 digits of a minute read as
unfoldable pub minute : List ℕ → Option Minute
minute s = built make (in_parts s)

pub builds : Builds make parts in_parts minute
unfolding minute
builds = given_builds there_is at (λ p e. refl) (λ v. v.ok) (λ v. refl) in_parts

-- the parts of minutes that there are
abbrev pub in_range : List ℕ → Option Parts
in_range s = seq 8 4 date (seq 2 2 (number 2 0 23) (number 2 0 59)) s

kept : Kept there_is in_parts in_range
kept = kept_by (λ p. is_minute_within p.back.front p.back.back) (seq_kept (all_kept date) (seq_kept hour_kept sixty_kept 2 2) 8 4)

pub composed : Composed 12 make parts in_range minute
composed = kept_composed there_is at builds kept (seq_laws date_laws (seq_laws hour_laws sixty_laws))

pub minute_laws : Laws 12 minute
minute_laws = composed_laws composed
