-- A draw keeps the order of the old lots and their bound.
use Rattle.std.proofs.Common.{ap, ◌∙◌, arith}
use Rattle.book.specs.Allowance.{units, rising}
use Rattle.table_book.specs.Held.{held}
use Rattle.book.proofs.Lots.{rising-undrawn, units-undrawn}
use Rattle.table_book.proofs.operations.TableBook.draw.Goals as goal

pub invariant_of-self : goal.invariant_of-self
invariant_of-self c =
    let o = c.args.self.now in
    let e = c.draw-from_old.ensures.lots in
    record {
      ordered = ap (rising 0) e ∙ rising-undrawn 0 c.args.n (held o.old) o.ordered;
      bounded = omega (arith, ap units e, units-undrawn c.args.n (held o.old));
      small = omega arith;
    }
