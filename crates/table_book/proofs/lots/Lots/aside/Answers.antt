-- Lots put in one after another with their ends lowered are the lots gathered under the cap, and find room.
use Rattle.std.proofs.Common.{◌≡◌, ◌+◌, ◌∷◌, Ok, length, get_or, drop, fold, sym, ap, ◌∙◌, arith}
use Rattle.std.proofs.lemmas.List.{drop_more}
use Rattle.std.proofs.lemmas.Bool.Decides.{nat_tests}
use Rattle.book.specs.declared.lot.Lot.{Lot}
use Rattle.book.specs.Allowance.{units, with_lot, with_capped}
use Rattle.book.proofs.Gathering.{units_with, length_with}
use Rattle.table_book.specs.Held.{held}
use Rattle.table_book.specs.Room.{room_answer}
use Rattle.table_book.proofs.Rows.{length-held}
use Rattle.table_book.proofs.lots.Lots.aside.Goals as goal

pub returns-in_err-add : goal.returns-in_err-add
returns-in_err-add c =
    let n = length_with c.capped.result (held c.loop-lot.next) in
    let m = length-held c.args.self.now in
    let w = ap length c.standing-lot-items.ensures in
    absurd (let room : room_answer (with_lot c.capped.result (held c.loop-lot.next)) ≡ Ok tt = grind (arith, nat_tests) in cc (c.in_err-add.ensures.answer, room))

pub loop-lot-preserved : goal.loop-lot-preserved
loop-lot-preserved c =
    let ls = held c.args.self.now in
    let xs = c.standing-lot-items.result.now in
    let same = c.standing-lot-items.ensures in
    let i = c.loop-lot.lot-index in
    let none : Lot = record { amount = 0; end = record { 0 = 0 } } in
    let rest = drop (i + 1) ls in
    let here : drop i ls ≡ get_or xs i none ∷ rest = ap (drop i) (sym same) ∙ drop_more xs i none (omega arith) ∙ ap (λ ys. get_or xs i none ∷ drop (i + 1) ys) same in
    let ks = held c.loop-lot.next in
    let l = c.capped.result in
    let a = ap (λ k. k.amount) c.capped.ensures.value in
    let put : held c.add.new.self ≡ with_lot l ks = c.in_ok-add.ensures.lots in
    let n = length_with l ks in
    let u = units_with l ks in (
      ap (λ js. fold (with_capped c.args.cap.0) js rest) (put ∙ ap (λ k. with_lot k ks) c.capped.ensures.value) ∙ sym (ap (fold (with_capped c.args.cap.0) ks) here) ∙ c.loop-lot.invariant.0,
      omega (arith, ap units put, ap units here),
      omega (arith, ap length put),
    )
