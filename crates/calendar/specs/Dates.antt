-- Dates: which ones exist in the calendar, and the number of the day that a date names.
use Rattle.std.specs.Prelude.{◌≡◌, ℕ, ◌+◌, ◌-◌, Bool, true, ◌&&◌, nat_le}
use Rattle.calendar.specs.declared.date.Date.{Date}
use Rattle.calendar.specs.Gregorian.{days_in, days_before_year, days_before_month}

-- The calendar covers the days 0 to 36,889, 31 December 2100.
abbrev pub last_day : ℕ
last_day = 36_889

-- It covers 1,212 months, the last of which is December 2100.
abbrev pub months : ℕ
months = 1212

-- Months go from 1 to 12, and the calendar covers the years 2000 to 2100.
abbrev pub has_month : ℕ → ℕ → Bool
has_month y m = nat_le 2000 y && (nat_le y 2100 && (nat_le 1 m && nat_le m 12))

-- A date exists if the calendar has its month, and its day is 1 to that month's length.
abbrev pub exists : Date → Bool
exists t = has_month t.year t.month && (nat_le 1 t.day && nat_le t.day (days_in t.year t.month))

-- A date's day number is the days of the years before its year, of the months of its year before its month, and of its month before it.
abbrev pub number : Date → ℕ
number t = days_before_year t.year + days_before_month t.year t.month + (t.day - 1)

-- The date t is the date of day d: it exists, its number is d, and no other date of the calendar has that number.
pub record DateOfDay (d : ℕ) (t : Date) : Type 0 where
  pub real : exists t ≡ true
  pub right : number t ≡ d
  pub only : (u : Date) → exists u ≡ true → number u ≡ d → u ≡ t
