-- A copy to the front removes the first lots.
use Rattle.std.proofs.Common.{ap, arith}
use Rattle.book.specs.Allowance.{units}
use Rattle.book.proofs.Lots.{units_rest}
use Rattle.table_book.specs.Held.{held}
use Rattle.table_book.proofs.Copies.{closed}
use Rattle.table_book.proofs.lots.Lots.forget.Goals as goal

pub invariant_of-self-clause-countable : goal.invariant_of-self-clause-countable
invariant_of-self-clause-countable c =
    let t = c.args.self.now in
    let e = closed t.lots c.copy_within.new.self t.len c.args.gone (omega arith) (omega arith) c.copy_within.ensures.after in
    omega (arith, ap units e, units_rest (held t) c.args.gone)

pub returns : goal.returns
returns c =
    let t = c.args.self.now in
    record { lots = closed t.lots c.copy_within.new.self t.len c.args.gone (omega arith) (omega arith) c.copy_within.ensures.after }
