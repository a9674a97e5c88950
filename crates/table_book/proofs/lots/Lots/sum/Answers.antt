-- The sum of the amounts, which fits.
use Rattle.std.proofs.Common.{sym, ◌∙◌, arith, rules}
use Rattle.std.proofs.lemmas.Iterator.{YieldsList-from_slice, YieldsList-from_map}
use Rattle.std.proofs.lemmas.Iterator.Consumers.{YieldsList-at, sum_by_from_yields_List, fits_by_from_yields_list}
use Rattle.table_book.specs.Held.{held}
use Rattle.table_book.proofs.Sums.{units_sum}
use Rattle.table_book.proofs.lots.Lots.sum.Goals as goal

pub sum-requires-clause-fits : goal.sum-requires-clause-fits
sum-requires-clause-fits c =
    let ls = held c.args.self.now in
    fits_by_from_yields_list (λ l. l.amount) ls c.map.result _
    (YieldsList-from_map _ (λ l. l.amount) (YieldsList-at c.map.ensures.source (YieldsList-from_slice ls (cc))) c.map.ensures.closure (λ x r q k. search rules))
    (omega (arith, units_sum ls))

pub returns : goal.returns
returns c =
    let ls = held c.args.self.now in
    record {
      value =
          sum_by_from_yields_List (λ l. l.amount) ls c.map.result c.sum.result c.sum.ensures.ran
          (YieldsList-from_map _ (λ l. l.amount) (YieldsList-at c.map.ensures.source (YieldsList-from_slice ls (cc))) c.map.ensures.closure (λ x r q k. search rules))
          ∙ sym (units_sum ls);
    }
