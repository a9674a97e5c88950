-- The next month begins where this one's days end.
use Rattle.std.proofs.Common.{arith}
use Rattle.calendar.proofs.Months.{next}
use Rattle.calendar.proofs.month.Month.length.Goals as goal

pub returns : goal.returns
returns c = omega (arith, next c.args.self.number)
