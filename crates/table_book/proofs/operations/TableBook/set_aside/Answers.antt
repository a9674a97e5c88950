-- Set aside gathers the old lots and puts the fresh amount to them; it refuses as its rule says.
use Rattle.std.proofs.Common.{ap, ◌∙◌, arith}
use Rattle.book.specs.Allowance.{rising}
use Rattle.table_book.specs.Held.{held}
use Rattle.book.proofs.Gathering.{rising-aside}
use Rattle.table_book.proofs.operations.TableBook.set_aside.Goals as goal

pub invariant_of-self-2 : goal.invariant_of-self-2
invariant_of-self-2 c =
    let o = c.args.self.now in
    let p = c.in_ok-next.ensures.lots in
    record {
      ordered = ap (rising 0) p ∙ rising-aside 0 o.fresh c.args.end.0 c.args.cap.0 (held o.old) (omega arith) (omega arith) o.ordered;
      bounded = omega arith;
      small = omega arith;
    }
