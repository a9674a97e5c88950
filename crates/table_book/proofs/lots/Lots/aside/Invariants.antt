-- The lots gathered so far, followed by those still to come, give all of them gathered.
use Rattle.std.proofs.Common.{◌≡◌, ◌+◌, ◌≤◌, drop, fold, length}
use Rattle.book.specs.Allowance.{units, gathered, with_capped}
use Rattle.table_book.specs.Held.{held}
use Rattle.table_book.proofs.lots.Lots.aside.Given as goal

abbrev pub invariant-loop-lot : goal.invariant-loop-lot
invariant-loop-lot l =
    (fold (with_capped l.cap.0) (held l.next) (drop l.lot-index (held l.fn.self)) ≡ gathered l.cap.0 (held l.fn.self))
    × (units (held l.next) + units (drop l.lot-index (held l.fn.self)) ≡ units (held l.fn.self))
    × (length (held l.next) ≤ l.lot-index)
