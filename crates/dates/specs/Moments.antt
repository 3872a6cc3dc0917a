-- A second of a day, in 14 digits.
use Rattle.std.specs.Prelude.{◌≡◌, ℕ, Bool, true, List, Option, refl}
use Rattle.kind.specs.Compounds.{Composed, composed_laws}
use Rattle.kind.specs.Kinds.{Laws}
use Rattle.kind.specs.Naming.{built, Builds}
use Rattle.kinds.specs.declared.layers.Both.{Both}
use Rattle.kinds.specs.Layers.{seq, seq_laws}
use Rattle.kinds.specs.Numbers.{number}
use Rattle.dates.specs.declared.date.Date.{Date}
use Rattle.dates.specs.declared.moment.Moment.{Moment}
use Rattle.dates.specs.Dates.{date, date_laws}
use Rattle.dates.specs.Days.{is_time, is_time_within}
use Rattle.dates.specs.Kept.{given, given_builds, Kept, kept_by, all_kept, seq_kept, sixty_kept, sixty_laws, hour_kept, hour_laws, kept_composed}

-- the moment of a date at a time of day, where there is such a time
abbrev pub moment_of : Date → ℕ → ℕ → ℕ → Option Moment
moment_of d h i s = given (is_time h i s) (λ e. record { date = d; hour = h; minute = i; second = s; ok = e })

abbrev pub Parts : Type 0
Parts = Both Date (Both ℕ (Both ℕ ℕ))

abbrev pub in_parts : List ℕ → Option Parts
in_parts s = seq 8 6 date (seq 2 4 (number 2 0 99) (seq 2 2 (number 2 0 99) (number 2 0 99))) s

abbrev pub make : Parts → Option Moment
make p = moment_of p.front p.back.front p.back.back.front p.back.back.back

-- whether there is a moment of these parts, and which
abbrev pub there_is : Parts → Bool
there_is p = is_time p.back.front p.back.back.front p.back.back.back

abbrev pub at : (p : Parts) → there_is p ≡ true → Moment
at p e = record { date = p.front; hour = p.back.front; minute = p.back.back.front; second = p.back.back.back; ok = e }

abbrev pub parts : Moment → Parts
parts v = record { front = v.date; back = record { front = v.hour; back = record { front = v.minute; back = v.second } } }

-- what 14 digits of a moment read as
unfoldable pub moment : List ℕ → Option Moment
moment s = built make (in_parts s)

pub builds : Builds make parts in_parts moment
unfolding moment
builds = given_builds there_is at (λ p e. refl) (λ v. v.ok) (λ v. refl) in_parts

-- the parts of moments that there are
abbrev pub in_range : List ℕ → Option Parts
in_range s = seq 8 6 date (seq 2 4 (number 2 0 23) (seq 2 2 (number 2 0 59) (number 2 0 59))) s

kept : Kept there_is in_parts in_range
kept = kept_by (λ p. is_time_within p.back.front p.back.back.front p.back.back.back) (seq_kept (all_kept date) (seq_kept hour_kept (seq_kept sixty_kept sixty_kept 2 2) 2 4) 8 6)

pub composed : Composed 14 make parts in_range moment
composed = kept_composed there_is at builds kept (seq_laws date_laws (seq_laws hour_laws (seq_laws sixty_laws sixty_laws)))

pub moment_laws : Laws 14 moment
moment_laws = composed_laws composed
