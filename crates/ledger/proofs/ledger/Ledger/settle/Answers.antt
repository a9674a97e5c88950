-- One more due day keeps the whole, and reaches further.
use mathlib.Core.Path.{sym, subst}
use Prim.Native.Nat.{ℕ, ◌+◌, ◌*◌, ◌^◌, ◌≤◌}
use native.Mathlib.Omega.{arith}
use Rattle.quantities.proofs.Order.{not_past}
use Rattle.rules.specs.declared.call.Status.{Status}
use Rattle.rules.specs.declared.call.Status.TheVariants.{Blocked, Active}
use Rattle.rules.specs.Gregorian.{gregorian}
use Rattle.receipt.specs.Columns.{receipt_of, AllBelow}
use Rattle.ledger.specs.Meaning.{state_of, reached}
use Rattle.ledger.proofs.Turns.{whole_again, further, all_below_sum, all_below_more}
use Rattle.ledger.proofs.ledger.Ledger.settle.Goals as goal

reached-most : (x : Status) (D : ℕ) → reached x D ≤ D + 1
reached-most Blocked D = omega arith
reached-most (Active d) D = omega arith

pub loop-self-preserved : goal.loop-self-preserved
loop-self-preserved g c =
    let means = g.B.Book.means in
    let D = c.args.day.day.0 in
    let d = c.in-Active.due in
    let s = state_of means c.loop-self.self in
    let t = state_of means c.handle-receipt.new.self in
    let total = receipt_of c.loop-self.total in
    let r = receipt_of c.handle-receipt.result in
    let on = c.in-Active.is in
    let due = not_past d.0 D c.if-gt.ensures in
    let done = c.handle-receipt.ensures.does in
    let small = c.handle-receipt.ensures.small in
    let (whole, below) = c.loop-self.invariant in
    let most = reached-most s.status D in
    let inside = c.args.day.inside in
    let sum = c.plus-total.ensures.exact (all_below_more (2 ^ 35 * (1 + reached s.status D)) (2 ^ 63) (omega arith) total below) (all_below_more (2 ^ 35) (2 ^ 63) (omega arith) r small) in
    let up = further gregorian D d s t r on due done in (
      whole_again gregorian D d s t r on due done (state_of means c.args.self.now) total (receipt_of c.plus-total.result) whole sum,
      subst (AllBelow (2 ^ 35 * (1 + reached t.status D))) (sym sum)
          (all_below_sum (2 ^ 35 * (1 + reached s.status D)) (2 ^ 35) _ (omega arith) total r below small),
    )

pub loop-self-smaller : goal.loop-self-smaller
loop-self-smaller g c =
    let means = g.B.Book.means in
    let D = c.args.day.day.0 in
    let d = c.in-Active.due in
    let s = state_of means c.loop-self.self in
    let t = state_of means c.handle-receipt.new.self in
    let due = not_past d.0 D c.if-gt.ensures in
    let up = further gregorian D d s t (receipt_of c.handle-receipt.result) c.in-Active.is due c.handle-receipt.ensures.does in
    let most = reached-most t.status D in
    omega arith
