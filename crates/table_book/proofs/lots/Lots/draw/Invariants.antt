-- What is still to draw, and on which lots, at each turn of a draw.
use Rattle.std.proofs.Common.{◌≡◌, ◌+◌, ◌-◌, ◌≤◌, min, drop}
use Rattle.book.specs.Allowance.{units, undrawn}
use Rattle.table_book.specs.Held.{held}
use Rattle.table_book.proofs.lots.Lots.draw.Given as goal

abbrev pub invariant-loop-gone : goal.invariant-loop-gone
invariant-loop-gone l =
    (l.self.len ≡ l.initial.self.len)
    × (l.gone ≤ l.self.len)
    × (l.left ≤ l.n)
    × (min l.n (units (held l.initial.self)) ≡ (l.n - l.left) + min l.left (units (drop l.gone (held l.self))))
    × (undrawn l.n (held l.initial.self) ≡ undrawn l.left (drop l.gone (held l.self)))
    × (units (held l.self) ≤ units (held l.initial.self))

abbrev pub decreases-loop-gone : goal.decreases-loop-gone
decreases-loop-gone l = l.self.len - l.gone
