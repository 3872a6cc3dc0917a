-- Which days and times of day there are.
use Rattle.std.specs.Prelude.{◌≡◌, ℕ, Bool, true, ◌&&◌, nat_le}
use Rattle.std.proofs.Common.{le-leb, arith}
use Rattle.std.proofs.Math.Bool.{and_assoc, and-true}

-- a year of four digits, a month, and a day of it: 1 to 31 in any month
unfoldable pub is_day : ℕ → ℕ → ℕ → Bool
is_day year month day = (nat_le year 9999 && (nat_le 1 month && nat_le month 12)) && (nat_le 1 day && nat_le day 31)

-- an hour, a minute and a second of a day
unfoldable pub is_time : ℕ → ℕ → ℕ → Bool
is_time hour minute second = (nat_le hour 23 && nat_le minute 59) && nat_le second 59

from_zero : (n : ℕ) → nat_le 0 n ≡ true
from_zero n = le-leb 0 n (omega arith)

-- the same, each number in a range of its own
pub is_day_within : (y m d : ℕ) → is_day y m d ≡ ((nat_le 0 y && nat_le y 9999) && ((nat_le 1 m && nat_le m 12) && (nat_le 1 d && nat_le d 31)))
unfolding is_day
is_day_within y m d = rw (from_zero y) (and_assoc (nat_le y 9999) (nat_le 1 m && nat_le m 12) (nat_le 1 d && nat_le d 31))

pub is_time_within : (h i s : ℕ) → is_time h i s ≡ ((nat_le 0 h && nat_le h 23) && ((nat_le 0 i && nat_le i 59) && (nat_le 0 s && nat_le s 59)))
unfolding is_time
is_time_within h i s = rw (from_zero h, from_zero i, from_zero s) (and_assoc (nat_le h 23) (nat_le i 59) (nat_le s 59))

pub is_minute_within : (h i : ℕ) → is_time h i 0 ≡ ((nat_le 0 h && nat_le h 23) && (nat_le 0 i && nat_le i 59))
unfolding is_time
is_minute_within h i = rw (from_zero h, from_zero i) (and-true (nat_le h 23 && nat_le i 59))
