-- The month and the date of a day, and the day on which the next fee falls due, also for days past the end of the calendar.
use Rattle.std.specs.Prelude.{◌≡◌, ℕ, zero, suc, ◌+◌, ◌-◌, ◌/◌, ◌<◌, ◌≤◌, min, Bool, cond, ◌&&◌, nat_le, nat_lt}
use Rattle.calendar.specs.declared.date.Date.{Date}
use Rattle.calendar.specs.Gregorian.{days_in, year_of, month_of_year, month_length, first}
use Rattle.calendar.specs.Dates.{number}

-- the month of the day that is `left` days after the first day of month k, at most n months on
abbrev pub month_from : ℕ → ℕ → ℕ → ℕ
month_from zero k left = k
month_from (suc n) k left = cond (nat_lt left (month_length k)) k (month_from n (k + 1) (left - month_length k))

-- The month in which day d lies, counted from January 2000, which is month 0. A month has at least 28 days.
unfoldable pub month_of : ℕ → ℕ
month_of d = month_from (d / 28 + 1) 0 d

-- The day of the month on which day d lies.
unfoldable pub month_day : ℕ → ℕ
month_day d = d - first (month_of d) + 1

-- The date of day d.
abbrev pub date_of : ℕ → Date
date_of d = record { year = year_of (month_of d); month = month_of_year (month_of d); day = month_day d }

-- The day of month k on which a fee with anchor a falls due is the smaller of a and the month's length.
abbrev pub due_date : ℕ → ℕ → Date
due_date k a = record { year = year_of k; month = month_of_year k; day = min a (days_in (year_of k) (month_of_year k)) }

-- The due day after a fee on day d with anchor a lies in the month after d's month.
unfoldable pub due_after : ℕ → ℕ → ℕ
due_after d a = number (due_date (month_of d + 1) a)

-- The last day after which the calendar has another month is 30 November 2100.
abbrev pub last_fee_day : ℕ
last_fee_day = 36_858

-- A due day is told for every fee up to that day, and for every anchor from 1 to 31.
abbrev pub has_due_day : ℕ → ℕ → Bool
has_due_day d a = nat_le d last_fee_day && (nat_le 1 a && nat_le a 31)

-- ## What holds of all days and anchors

-- A due day is later than the fee before it.
abbrev pub DueLater : Type 0
DueLater = (d a : ℕ) → d < due_after d a

-- A due day is at most 61 days after the fee before it: as from the first day of July to the last of August.
abbrev pub DueWithin : Type 0
DueWithin = (d a : ℕ) → due_after d a ≤ d + 61

-- A due day lies in the month after that of the fee before it.
abbrev pub DueNextMonth : Type 0
DueNextMonth = (d a : ℕ) → month_of (due_after d a) ≡ month_of d + 1

-- The date of a due day is in that month, on the anchor or on that month's last day, whichever comes first.
abbrev pub DueDated : Type 0
DueDated = (d a : ℕ) → 1 ≤ a → date_of (due_after d a) ≡ due_date (month_of d + 1) a

-- A later day lies in no earlier month.
abbrev pub MonthOfMonotone : Type 0
MonthOfMonotone = (d e : ℕ) → d ≤ e → month_of d ≤ month_of e

-- A day before the first day of month k lies in a month before k.
abbrev pub MonthOfBefore : Type 0
MonthOfBefore = (d k : ℕ) → d < first k → month_of d < k

-- A day of the month is at least 1.
abbrev pub MonthDayLeast : Type 0
MonthDayLeast = (d : ℕ) → 1 ≤ month_day d

-- A day of the month is at most 31.
abbrev pub MonthDayMost : Type 0
MonthDayMost = (d : ℕ) → month_day d ≤ 31
