-- The sum of the amounts of the lots that pass the test, which fits.
use Rattle.std.proofs.Common.{◌≡◌, leb, sym, ◌∙◌, arith, rules, tests}
use Rattle.std.proofs.lemmas.Iterator.{YieldsList-from_slice, YieldsList-from_map}
use Rattle.std.proofs.lemmas.Iterator.Consumers.{YieldsList-at, YieldsList-from_filter, sum_by_from_yields_List, fits_by_from_yields_list}
use Rattle.book.specs.Allowance.{units, ended}
use Rattle.book.proofs.Lots.{units_kept, units-parts}
use Rattle.table_book.specs.Held.{held}
use Rattle.table_book.proofs.Sums.{units_sum}
use Rattle.table_book.proofs.lots.Lots.ended.Goals as goal

pub sum-requires-clause-fits : goal.sum-requires-clause-fits
sum-requires-clause-fits c =
    let ls = held c.args.self.now in
    let day = c.args.day.0 in
    fits_by_from_yields_list (λ l. l.amount) (ended day ls) c.map.result _
    (YieldsList-from_map _ (λ l. l.amount)
    (YieldsList-at c.map.ensures.source (YieldsList-from_filter _ (λ l. leb l.end.0 day) (YieldsList-at c.filter.ensures.source (YieldsList-from_slice ls (cc))) c.filter.ensures.closure (λ x r q k. search (rules, tests))))
    c.map.ensures.closure (λ x r q k. search rules))
    (omega (arith, units_sum (ended day ls), units_kept (λ l. leb l.end.0 day) ls))

pub returns-clause-value : goal.returns-clause-value
returns-clause-value c =
    let ls = held c.args.self.now in
    let day = c.args.day.0 in
    sum_by_from_yields_List (λ l. l.amount) (ended day ls) c.map.result c.sum.result c.sum.ensures.ran
    (YieldsList-from_map _ (λ l. l.amount)
    (YieldsList-at c.map.ensures.source (YieldsList-from_filter _ (λ l. leb l.end.0 day) (YieldsList-at c.filter.ensures.source (YieldsList-from_slice ls (cc))) c.filter.ensures.closure (λ x r q k. search (rules, tests))))
    c.map.ensures.closure (λ x r q k. search rules))
    ∙ sym (units_sum (ended day ls))

pub returns-clause-parts : goal.returns-clause-parts
returns-clause-parts c =
    let ls = held c.args.self.now in
    let day = c.args.day.0 in
    let value : c.sum.result ≡ units (ended day ls) = returns-clause-value c in
    omega (arith, units-parts day ls)
