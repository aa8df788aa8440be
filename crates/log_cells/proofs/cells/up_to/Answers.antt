use Rattle.std.proofs.Common.{leb, rules}
use Rattle.std.proofs.lemmas.List.Sorted.{IsPartitionPoint-from_clause, IsPartitionedBy-leb}
use Rattle.log_cells.proofs.MarkLemmas.{rising_order, split_by}
use Rattle.log_cells.proofs.cells.up_to.Goals as goal

pub returns : goal.returns
returns c = λ rising.
    let parted = IsPartitionedBy-leb (λ v. v) _ c.args.address (rising_order c.args.bounds.now rising) in
    let point = IsPartitionPoint-from_clause (λ v. leb v c.args.address) _ _ c.partition_point.ensures.partitioned parted (λ a r q k. search rules) in
    split_by c.args.bounds.now c.args.address c.partition_point.result point
