-- A day of the month is 1 to 31.
use mathlib.Core.Path.{◌≡◌}
use native.Mathlib.Omega.{arith}
use borrow.Author.Rules.{rules}
use Rattle.calendar.specs.Due.{month_day}
use Rattle.calendar.proofs.Due.{month_day_least, month_day_most}
use Rattle.ledger.proofs.dates.anchor_on.Goals as goal

pub returns : goal.returns
returns c =
    let d = c.args.day.day.0 in
    let value : c.in-Some.number ≡ month_day d = search rules in
    record { value = value; least = omega (arith, month_day_least d); most = omega (arith, month_day_most d) }
