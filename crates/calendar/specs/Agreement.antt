-- Day to date and date to day agree on all days and dates of the calendar.
use Rattle.std.specs.Prelude.{◌≡◌, ℕ, ◌≤◌, true}
use Rattle.calendar.specs.declared.date.Date.{Date}
use Rattle.calendar.specs.Dates.{last_day, exists, number, DateOfDay}
use Rattle.calendar.specs.Due.{date_of}

-- The date of each day exists, and the day is its number, and that of no other date.
abbrev pub DaysHaveDates : Type 0
DaysHaveDates = (d : ℕ) → d ≤ last_day → DateOfDay d (date_of d)

-- The number of each date that exists is a day of the calendar, and the date is the date of that day.
abbrev pub DatesHaveDays : Type 0
DatesHaveDays = (t : Date) → exists t ≡ true → (number t ≤ last_day) × (date_of (number t) ≡ t)
