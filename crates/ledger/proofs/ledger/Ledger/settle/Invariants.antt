-- What was done so far and the due days left are together the whole; each turn reaches further.
use mathlib.Core.Path.{◌≡◌}
use Prim.Native.Nat.{suc, ◌+◌, ◌-◌, ◌*◌, ◌^◌}
use Rattle.rules.specs.State.{after}
use Rattle.rules.specs.DueDays.{settle}
use Rattle.rules.specs.Gregorian.{gregorian}
use Rattle.receipt.specs.Columns.{receipt_of, AllBelow}
use Rattle.ledger.specs.Meaning.{state_of, reached}
use Rattle.ledger.proofs.ledger.Ledger.settle.Given as goal

abbrev pub invariant-loop-self : goal.invariant-loop-self
invariant-loop-self g l =
    let means = g.B.Book.means in
    let D = l.day.day.0 in
    let whole = settle gregorian (suc D) D in
    (after (receipt_of l.total) (whole (state_of means l.self)) ≡ whole (state_of means l.initial.self))
    × AllBelow (2 ^ 35 * (1 + reached l.self.status D)) (receipt_of l.total)

abbrev pub decreases-loop-self : goal.decreases-loop-self
decreases-loop-self g l = l.day.day.0 + 1 - reached l.self.status l.day.day.0
