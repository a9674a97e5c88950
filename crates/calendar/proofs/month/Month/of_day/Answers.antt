-- A day of the calendar lies in one of its months.
use Rattle.std.proofs.Common.{◌≡◌, ◌-◌, ap, arith}
use Rattle.calendar.specs.Gregorian.{first, month_length}
use Rattle.calendar.specs.Due.{month_of}
use Rattle.calendar.proofs.Due.{month_of-calendar}
use Rattle.calendar.proofs.Months.{month_of-within}
use Rattle.calendar.proofs.month.Month.of_day.Goals as goal

pub invariant_of-result : goal.invariant_of-result
invariant_of-result c = omega (arith, month_of-calendar c.args.day.0 c.requires)

pub returns : goal.returns
returns c =
    let k : c.months_begun.result - 1 ≡ month_of c.args.day.0 = omega arith in
    let w = month_of-within c.args.day.0 in
    let f = ap first k in
    let l = ap month_length k in
    record { value = k; begun = omega arith; during = omega arith }
