-- A lapse keeps the lots that last past the day.
use Rattle.std.proofs.Common.{ap, arith}
use Rattle.book.specs.Allowance.{units}
use Rattle.book.proofs.Lots.{units-parts}
use Rattle.table_book.specs.Held.{held}
use Rattle.table_book.proofs.Lasting.{units_lasting, rising_lasting}
use Rattle.table_book.proofs.lots.Lots.lapse.Goals as goal

pub invariant_of-self-clause-countable : goal.invariant_of-self-clause-countable
invariant_of-self-clause-countable c = omega (arith, units_lasting _ _ c.args.day.0 c.keep_lasting-stay.ensures.front)

pub returns-clause-parts : goal.returns-clause-parts
returns-clause-parts c = omega (arith, ap units c.keep_lasting-stay.ensures.front, units-parts c.args.day.0 (held c.args.self.now))

pub returns-clause-ordered : goal.returns-clause-ordered
returns-clause-ordered c = rising_lasting _ _ c.args.day.0 c.keep_lasting-stay.ensures.front
