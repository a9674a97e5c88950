-- The tests in code are those of a date that exists, and its month's first day is the days of the years and months before it.
use Rattle.std.proofs.Common.{◌≡◌, true, Ok, sym, ap, ◌∙◌, rules}
use Rattle.calendar.specs.Dates.{exists, number}
use Rattle.calendar.proofs.Months.{number_in}
use Rattle.calendar.proofs.days.DayTryFromDate.try_from.Goals as goal

pub returns-in-Some : goal.returns-in-Some
returns-in-Some c =
    let t = c.args.date in
    let real : exists t ≡ true = search rules in
    let n = rw (c.in-Some.ensures.year, c.in-Some.ensures.month) at (number_in c.in-Some.month.number t.day) in
    let e : c.day.result.0 ≡ number t = c.day.ensures ∙ sym n in
    rw real (ap (λ x. Ok (record { 0 = x })) e)
