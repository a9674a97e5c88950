-- A date as text.
use Rattle.std.specs.Prelude.{◌≡◌, ℕ, ◌+◌, ◌-◌, ◌/◌, ◌%◌, ◌<◌, List, [], ◌∷◌, ◌++◌, length, replicate, codes, decimal}
use Rattle.calendar.specs.declared.date.Date.{Date}

-- A number of two digits, with a leading zero below ten. The digit 0 is written as the byte 48.
abbrev pub two_digits : ℕ → List ℕ
two_digits n = (48 + n / 10 % 10) ∷ ((48 + n % 10) ∷ [])

-- A date is written as YYYY-MM-DD, with leading zeros.
abbrev pub date_text : Date → List ℕ
date_text t =
    two_digits (t.year / 100)
    ++ (two_digits (t.year % 100) ++ (codes "-" ++ (two_digits t.month ++ (codes "-" ++ two_digits t.day))))

-- A number of at least so many digits, with leading zeros where it has fewer.
abbrev pub zero_padded : ℕ → ℕ → List ℕ
zero_padded digits n = replicate (digits - length (decimal n)) 48 ++ decimal n

-- Any year, month and day are written with at least four, two and two digits.
abbrev pub any_date_text : Date → List ℕ
any_date_text t = zero_padded 4 t.year ++ (codes "-" ++ (zero_padded 2 t.month ++ (codes "-" ++ zero_padded 2 t.day)))

-- A date of a year up to 9999, with a month and a day of at most two digits, is written as YYYY-MM-DD.
abbrev pub DatesWritten : Type 0
DatesWritten = (t : Date) → t.year < 10_000 → t.month < 100 → t.day < 100 → any_date_text t ≡ date_text t
