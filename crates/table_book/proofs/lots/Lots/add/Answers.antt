-- One lot more is joined with the lot of equal end, or goes in before the first that ends later.
use Rattle.std.proofs.Common.{◌≡◌, ◌<◌, length, get_or, ap, arith, rules, tests}
use Rattle.std.proofs.lemmas.Bool.Decides.{nat_tests}
use Rattle.std.proofs.lemmas.Grind.{common_steps}
use Rattle.std.proofs.lemmas.List.Edits.{length-insert}
use Rattle.book.specs.Allowance.{units, with_lot}
use Rattle.table_book.specs.Held.{held}
use Rattle.book.proofs.Gathering.{units_with}
use Rattle.table_book.proofs.Places.{joins_at, goes_in, goes_last, place_within}
use Rattle.table_book.proofs.Rows.{none, amount_at, length-held, length_set}
use Rattle.table_book.proofs.lots.Lots.add.Goals as goal

pub overflow_add-self : goal.overflow_add-self
overflow_add-self c =
    let t = c.args.self.now in
    let i = c.place-at.result in
    let h : i < length (held t) = search rules in
    let n = length-held t in
    omega (arith, amount_at t i (omega arith))

pub invariant_of-self-clause-countable : goal.invariant_of-self-clause-countable
invariant_of-self-clause-countable c =
    let t = c.args.self.now in
    let i = c.place-at.result in
    let h : i < length (held t) = search rules in
    let k : c.in-Some.other.now ≡ get_or (held t) i none = search rules in
    let e = joins_at t c.args.lot c.in-Some.other.now i c.place-at.ensures.value h k (search (rules, tests)) in
    omega (arith, ap units e, units_with c.args.lot (held t))

pub returns-then-eq : goal.returns-then-eq
returns-then-eq c =
    let t = c.args.self.now in
    let i = c.place-at.result in
    let h : i < length (held t) = search rules in
    let k : c.in-Some.other.now ≡ get_or (held t) i none = search rules in
    let e = joins_at t c.args.lot c.in-Some.other.now i c.place-at.ensures.value h k (search (rules, tests)) in
    let n = length_set t i _ (with_lot c.args.lot (held t)) e in
    record { answer = grind (arith, nat_tests); lots = e }

pub returns-then-self-eq-MOST_LOTS-clause-answer : goal.returns-then-self-eq-MOST_LOTS-clause-answer
returns-then-self-eq-MOST_LOTS-clause-answer c =
    let ls = held c.args.self.now in
    let n = length-held c.args.self.now in
    let m = length-insert ls c.place-at.result c.args.lot (place_within c.args.lot ls c.place-at.result c.place-at.ensures.value) in
    grind (arith, nat_tests, common_steps, goes_in, goes_last)

pub insert-requires : goal.insert-requires
insert-requires c =
    let n = length-held c.args.self.now in
    let m = place_within c.args.lot (held c.args.self.now) c.place-at.result c.place-at.ensures.value in
    omega arith

pub returns : goal.returns
returns c =
    let ls = held c.args.self.now in
    let n = length-held c.args.self.now in
    let m = length-insert ls c.place-at.result c.args.lot (place_within c.args.lot ls c.place-at.result c.place-at.ensures.value) in
    grind (arith, nat_tests, common_steps, goes_in, goes_last)
