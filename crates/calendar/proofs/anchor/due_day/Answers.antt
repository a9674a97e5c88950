-- The day found is that of the anchor, or the last, in the month after that of the fee.
use Rattle.std.proofs.Common.{◌≡◌, ◌+◌, ◌≤◌, true, Some, ap, arith, rules}
use Rattle.calendar.specs.Gregorian.{first, month_length}
use Rattle.calendar.specs.Due.{month_of, due_after, has_due_day, last_fee_day}
use Rattle.calendar.proofs.Due.{due-first, month_of-fee}
use Rattle.calendar.proofs.anchor.due_day.Goals as goal

pub next-next-requires : goal.next-next-requires
next-next-requires c =
    let inside : c.args.day.0 ≤ last_fee_day = search rules in
    omega (arith, month_of-fee c.args.day.0 inside)

pub returns : goal.returns
returns c =
    let d = c.args.day.0 in
    let a = c.args.anchor.0 in
    let told : has_due_day d a ≡ true = search rules in
    let k : c.next-next.result.number ≡ month_of d + 1 = omega arith in
    let e : c.day.result.0 ≡ due_after d a = omega (arith, due-first d a, ap first k, ap month_length k) in
    record { value = rw told (ap (λ x. Some (record { 0 = x })) e) }
