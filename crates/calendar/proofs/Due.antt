-- The laws of months and due days.
use Rattle.std.proofs.Common.{◌≡◌, ℕ, ◌+◌, ◌-◌, ◌<◌, ◌≤◌, min, ap, ◌∙◌, inl, inr, arith}
use Rattle.std.proofs.lemmas.Bool.{cases_lt}
use Rattle.calendar.specs.Gregorian.{year_of, month_of_year, month_length, first}
use Rattle.calendar.specs.Dates.{last_day, months}
use Rattle.calendar.specs.Due.{month_of, month_day, due_after, last_fee_day, DueLater, DueWithin, DueNextMonth, DueDated, MonthOfMonotone, MonthOfBefore, MonthDayLeast, MonthDayMost}
use Rattle.calendar.proofs.Months.{dated, next, first_monotone, length-least, length_most, number_in, month_of-within, month_of_is}

-- the due day, counted from the first day of the next month
pub due-first : (d a : ℕ) → due_after d a ≡ first (month_of d + 1) + (min a (month_length (month_of d + 1)) - 1)
unfolding due_after
due-first d a = number_in (month_of d + 1) (min a (month_length (month_of d + 1)))

pub due_later : DueLater
due_later d a =
    let w = month_of-within d in
    let n = next (month_of d) in
    omega (arith, due-first d a)

pub due-within : DueWithin
due-within d a =
    let w = month_of-within d in
    let n = next (month_of d) in
    let m = length_most (month_of d) in
    let m' = length_most (month_of d + 1) in
    omega (arith, due-first d a)

pub due_next_month : DueNextMonth
due_next_month d a =
    let f = due-first d a in
    let l = length-least (month_of d + 1) in
    month_of_is (month_of d + 1) (due_after d a) (omega arith)

pub due-dated : DueDated
unfolding month_day
due-dated d a h =
    let k = month_of d + 1 in
    let f = due-first d a in
    let l = length-least k in
    let e = due_next_month d a in
    let g = ap first e in
    let m : month_day (due_after d a) ≡ min a (month_length k) = omega arith in
    ap (λ x. dated (year_of x) (month_of_year x) (month_day (due_after d a))) e ∙ ap (dated (year_of k) (month_of_year k)) m

pub month_of_before : MonthOfBefore
month_of_before d k h =
    elim (cases_lt (month_of d) k) [
      | inl lt ↦ lt
      | inr ge ↦ absurd (let w = month_of-within d in omega (arith, first_monotone k (month_of d) ge))
    ]

pub month_of_monotone : MonthOfMonotone
month_of_monotone d e h =
    let w = month_of-within e in
    let n = next (month_of e) in
    omega (arith, month_of_before d (month_of e + 1) (omega arith))

-- a day of the calendar lies in one of its months
pub month_of-calendar : (d : ℕ) → d ≤ last_day → month_of d < months
month_of-calendar d h = month_of_before d months (omega arith)

-- and the calendar has the month after that of a fee
pub month_of-fee : (d : ℕ) → d ≤ last_fee_day → month_of d + 1 < months
month_of-fee d h = omega (arith, month_of_before d 1211 (omega arith))

pub month_day_least : MonthDayLeast
unfolding month_day
month_day_least d = omega arith

pub month_day_most : MonthDayMost
unfolding month_day
month_day_most d =
    let w = month_of-within d in
    let m = length_most (month_of d) in
    omega arith
