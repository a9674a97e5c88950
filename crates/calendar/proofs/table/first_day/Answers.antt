-- The table is the list that the Gregorian rule unrolls to.
use Rattle.calendar.proofs.FirstDays.{at, most}
use Rattle.calendar.proofs.table.first_day.Goals as goal

pub returns : goal.returns
returns c = record { value = at c.args.k 0 c.requires; within = most c.args.k c.requires }
