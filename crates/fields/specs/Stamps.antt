-- Dates and times as plain numbers.
use Rattle.std.specs.Prelude.{◌≡◌, ℕ, List, Some, None, Option, refl}
use Rattle.std.proofs.Common.{◌∙◌, ap, ap₂}
use Rattle.kind.specs.Kinds.{Laws}
use Rattle.kinds.specs.declared.layers.Both.{Both}
use Rattle.kind.specs.Options.{never, some_is}
use Rattle.dates.specs.declared.calendar.CalendarDate.{CalendarDate}
use Rattle.dates.specs.declared.calendar.CalendarDate.TheVariants as calendar
use Rattle.dates.specs.declared.date.Date.{Date}
use Rattle.dates.specs.declared.minute.Minute.{Minute}
use Rattle.dates.specs.declared.moment.Moment.{Moment}
use Rattle.dates.specs.CalendarDates.{calendar_date, calendar_date_laws}
use Rattle.dates.specs.Dates as dates
use Rattle.dates.specs.Dates.{date_of}
use Rattle.dates.specs.Minutes as minutes
use Rattle.dates.specs.Minutes.{minute, minute_of, minute_laws}
use Rattle.dates.specs.Moments as moments
use Rattle.dates.specs.Moments.{moment, moment_of, moment_laws}
use Rattle.fields.specs.declared.stamp.DateStamp.{DateStamp}
use Rattle.fields.specs.declared.stamp.DateStamp.TheVariants.{Day, Month}
use Rattle.fields.specs.declared.stamp.MinuteStamp.{MinuteStamp}
use Rattle.fields.specs.declared.stamp.MomentStamp.{MomentStamp}
use Rattle.fields.specs.Tagged.{lifted, lifted_is, tagged, tagged_laws}
use Rattle.fields.specs.Stripping.{Strips, strips_one}

abbrev pub moment_stamp : Moment → MomentStamp
moment_stamp m = record { year = m.date.year; month = m.date.month; day = m.date.day; hour = m.hour; minute = m.minute; second = m.second }

abbrev pub minute_stamp : Minute → MinuteStamp
minute_stamp m = record { year = m.date.year; month = m.date.month; day = m.date.day; hour = m.hour; minute = m.minute }

abbrev pub date_stamp : CalendarDate → DateStamp
date_stamp (calendar.Day d) = Day d.year d.month d.day
date_stamp (calendar.Month y m) = Month y m

-- what a date goes on with, if there is the date
abbrev pub chain : {V U : Type 0} → Option V → (V → Option U) → Option U
chain None h = None
chain (Some v) h = h v

-- the moment, the minute and the date of the numbers, if there are such
abbrev pub moment_at : MomentStamp → Option Moment
moment_at p = chain (date_of p.year p.month p.day) (λ d. moment_of d p.hour p.minute p.second)

abbrev pub minute_at : MinuteStamp → Option Minute
minute_at p = chain (date_of p.year p.month p.day) (λ d. minute_of d p.hour p.minute)

abbrev pub date_at : DateStamp → Option CalendarDate
date_at (Day y m d) = lifted calendar.Day (date_of y m d)
date_at (Month y m) = Some (calendar.Month y m)

-- what the bytes of a moment, a minute and a date read as, in plain numbers
unfoldable pub stamped_moment : List ℕ → Option MomentStamp
stamped_moment = tagged moment_stamp moment

unfoldable pub stamped_minute : List ℕ → Option MinuteStamp
stamped_minute = tagged minute_stamp minute

unfoldable pub stamped_date : List ℕ → Option DateStamp
stamped_date = tagged date_stamp calendar_date

chain_is : {V U : Type 0} (x : Option V) (h : V → Option U) (u : U) → chain x h ≡ Some u → (v : V) × (x ≡ Some v) × (h v ≡ Some u)
chain_is None h u e = never e
chain_is (Some v) h u e = (v, refl, e)

-- a stamp of a date's numbers and a time's
abbrev with_time : dates.Parts → Both ℕ (Both ℕ ℕ) → MomentStamp
with_time d t = record { year = d.front; month = d.back.front; day = d.back.back; hour = t.front; minute = t.back.front; second = t.back.back }

abbrev with_minute : dates.Parts → Both ℕ ℕ → MinuteStamp
with_minute d t = record { year = d.front; month = d.back.front; day = d.back.back; hour = t.front; minute = t.back }

abbrev as_day : dates.Parts → DateStamp
as_day d = Day d.front d.back.front d.back.back

-- the numbers are those of the date that they make
is_date : (y m d : ℕ) (v : Date) → date_of y m d ≡ Some v → record { front = y; back = record { front = m; back = d } } ≡ dates.parts v
is_date y m d v e = (dates.builds).of (record { front = y; back = record { front = m; back = d } }) v e

of_moment : (p : MomentStamp) (v : Moment) → moment_at p ≡ Some v → p ≡ moment_stamp v
of_moment p v e =
    let x = chain_is (date_of p.year p.month p.day) (λ d. moment_of d p.hour p.minute p.second) v e in
    let t = (moments.builds).of (record { front = x.0; back = record { front = p.hour; back = record { front = p.minute; back = p.second } } }) v x.2 in
    ap₂ with_time (is_date p.year p.month p.day x.0 x.1 ∙ ap (λ q. dates.parts q.front) t) (ap (λ q. q.back) t)

of_minute : (p : MinuteStamp) (v : Minute) → minute_at p ≡ Some v → p ≡ minute_stamp v
of_minute p v e =
    let x = chain_is (date_of p.year p.month p.day) (λ d. minute_of d p.hour p.minute) v e in
    let t = (minutes.builds).of (record { front = x.0; back = record { front = p.hour; back = p.minute } }) v x.2 in
    ap₂ with_minute (is_date p.year p.month p.day x.0 x.1 ∙ ap (λ q. dates.parts q.front) t) (ap (λ q. q.back) t)

of_date : (p : DateStamp) (v : CalendarDate) → date_at p ≡ Some v → p ≡ date_stamp v
of_date (Day y m d) v e =
    let x = lifted_is calendar.Day (date_of y m d) v e in
    ap as_day (is_date y m d x.0 x.1) ∙ ap date_stamp x.2
of_date (Month y m) v e = ap date_stamp (some_is e)

back_date : (v : CalendarDate) → date_at (date_stamp v) ≡ Some v
back_date (calendar.Day d) = ap (lifted calendar.Day) ((dates.builds).back d)
back_date (calendar.Month y m) = refl

pub moment_strips : Strips moment_stamp moment_at
moment_strips = record {
  back = λ v. ap (λ x. chain x (λ d. moment_of d v.hour v.minute v.second)) ((dates.builds).back v.date) ∙ (moments.builds).back v;
  of = of_moment;
}

pub minute_strips : Strips minute_stamp minute_at
minute_strips = record {
  back = λ v. ap (λ x. chain x (λ d. minute_of d v.hour v.minute)) ((dates.builds).back v.date) ∙ (minutes.builds).back v;
  of = of_minute;
}

pub date_strips : Strips date_stamp date_at
date_strips = record { back = back_date; of = of_date }

pub stamped_moment_laws : Laws 14 stamped_moment
unfolding stamped_moment
stamped_moment_laws = tagged_laws moment_stamp (strips_one moment_strips) moment_laws

pub stamped_minute_laws : Laws 12 stamped_minute
unfolding stamped_minute
stamped_minute_laws = tagged_laws minute_stamp (strips_one minute_strips) minute_laws

pub stamped_date_laws : Laws 8 stamped_date
unfolding stamped_date
stamped_date_laws = tagged_laws date_stamp (strips_one date_strips) calendar_date_laws
