-- The Gregorian calendar from 1 January 2000 on: leap years, the lengths of months and years, and the days before them.
use Rattle.std.specs.Prelude.{ℕ, zero, suc, ◌+◌, ◌-◌, ◌/◌, ◌%◌, Bool, cond, not, ◌&&◌, ◌||◌, ◌==◌}

-- A year is a leap year if 4 divides it, unless 100 divides it and 400 does not.
abbrev pub leap : ℕ → Bool
leap y = y % 4 == 0 && (not (y % 100 == 0) || y % 400 == 0)

-- April, June, September and November have 30 days.
abbrev pub has_thirty : ℕ → Bool
has_thirty m = m == 4 || (m == 6 || (m == 9 || m == 11))

-- February has 28 days, and 29 in a leap year; of the other months four have 30 days, and the rest 31.
abbrev pub days_in : ℕ → ℕ → ℕ
days_in y m = cond (m == 2) (cond (leap y) 29 28) (cond (has_thirty m) 30 31)

-- A leap year has 366 days, and every other year 365.
abbrev pub year_length : ℕ → ℕ
year_length y = cond (leap y) 366 365

-- the days of the first n years from 2000 on
abbrev pub days_of_years : ℕ → ℕ
days_of_years zero = 0
days_of_years (suc n) = days_of_years n + year_length (2000 + n)

-- the days of the first n months of the year y
abbrev pub days_of_months : ℕ → ℕ → ℕ
days_of_months y zero = 0
days_of_months y (suc n) = days_of_months y n + days_in y (n + 1)

-- The days of the years from 2000 to the one before y.
abbrev pub days_before_year : ℕ → ℕ
days_before_year y = days_of_years (y - 2000)

-- The days of the months of the year y before its month m.
abbrev pub days_before_month : ℕ → ℕ → ℕ
days_before_month y m = days_of_months y (m - 1)

-- ## Months counted from January 2000, which is month 0

abbrev pub year_of : ℕ → ℕ
year_of k = 2000 + k / 12

abbrev pub month_of_year : ℕ → ℕ
month_of_year k = k % 12 + 1

abbrev pub month_length : ℕ → ℕ
month_length k = days_in (year_of k) (month_of_year k)

-- The first day of month k: the days of all months before it.
abbrev pub first : ℕ → ℕ
first zero = 0
first (suc k) = first k + month_length k
