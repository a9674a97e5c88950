-- A copy by one place makes room for a lot.
use Rattle.std.proofs.Common.{ap, arith}
use Rattle.book.specs.Allowance.{units}
use Rattle.table_book.specs.Held.{held}
use Rattle.table_book.proofs.Copies.{opened}
use Rattle.table_book.proofs.Rows.{units_inserted, length-held}
use Rattle.table_book.proofs.lots.Lots.insert.Goals as goal

pub invariant_of-self-clause-countable : goal.invariant_of-self-clause-countable
invariant_of-self-clause-countable c =
    let t = c.args.self.now in
    let n = length-held t in
    let e = opened t.lots c.copy_within.new.self t.len c.args.at c.args.lot (omega arith) (omega arith) c.copy_within.ensures.after in
    omega (arith, ap units e, units_inserted c.args.lot (held t) c.args.at (omega arith))

pub returns : goal.returns
returns c =
    let t = c.args.self.now in
    record { lots = opened t.lots c.copy_within.new.self t.len c.args.at c.args.lot (omega arith) (omega arith) c.copy_within.ensures.after }
