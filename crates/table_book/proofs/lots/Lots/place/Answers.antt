-- The place is the first whose lot passes the test, or the length.
use Rattle.std.proofs.Common.{not, leb, arith, rules, tests}
use Rattle.std.proofs.lemmas.Bool.Decides.{nat_tests}
use Rattle.std.proofs.lemmas.List.Sums.{prefix_len-le-length}
use Rattle.std.proofs.lemmas.Iterator.{YieldsList-from_slice}
use Rattle.std.proofs.lemmas.Iterator.Search.{position_from_yields_List}
use Rattle.table_book.specs.Held.{held}
use Rattle.table_book.proofs.Rows.{length-held}
use Rattle.table_book.proofs.lots.Lots.place.Goals as goal

pub returns : goal.returns
returns c =
    let ls = held c.args.self.now in
    let p = position_from_yields_List (λ k. leb c.args.end.0 k.end.0) _ _ c.position.result c.position.ensures.ran (YieldsList-from_slice ls (cc)) (λ x b q k. search (rules, tests)) in
    let u = c.unwrap_or.ensures in
    let v = length-held c.args.self.now in
    let w = prefix_len-le-length (λ k. not (leb c.args.end.0 k.end.0)) ls in
    record { value = grind (arith, nat_tests) }
