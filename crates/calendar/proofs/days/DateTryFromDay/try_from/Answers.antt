-- The date in code is the date of the day.
use Rattle.std.proofs.Common.{◌≡◌, ◌≤◌, rules, sym, subst, Ok, ap}
use Rattle.std.proofs.lemmas.Bool.{le-leb}
use Rattle.calendar.specs.Dates.{last_day, DateOfDay}
use Rattle.calendar.specs.Due.{month_day, date_of}
use Rattle.calendar.proofs.Months.{dated}
use Rattle.calendar.proofs.Dates.{days_have_dates}
use Rattle.calendar.proofs.days.DateTryFromDay.try_from.Goals as goal

pub returns : goal.returns
unfolding month_day
returns c =
    let d = c.args.day.0 in
    let inside : d ≤ last_day = search rules in
    let e : date_of d ≡ dated c.year.result c.in_year.result c.number_of.result = cc in
    record { value = rw (le-leb d last_day inside) (ap Ok (sym e)); date = subst (DateOfDay d) e (days_have_dates d inside) }
