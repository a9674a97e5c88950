-- The table rises, so that the search finds how many months have begun.
use Rattle.std.proofs.Common.{leb, rules}
use Rattle.std.proofs.lemmas.List.Sorted.{IsPartitionPoint-from_clause, IsPartitionedBy-leb}
use Rattle.calendar.proofs.FirstDays.{table, rising, begun}
use Rattle.calendar.proofs.table.months_begun.Goals as goal

pub returns : goal.returns
returns c =
    let d = c.args.day.0 in
    let found = c.partition_point.ensures in
    begun d c.partition_point.result c.requires found.bound
    (IsPartitionPoint-from_clause (λ x. leb x d) table c.partition_point.result found.partitioned
    (IsPartitionedBy-leb (λ x. x) table d rising) (λ a r q k. search rules))
