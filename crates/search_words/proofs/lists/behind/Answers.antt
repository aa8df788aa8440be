use Rattle.std.proofs.Common.{ltb, ltb-true, arith, rules, length, ◌-◌, drop}
use Rattle.std.proofs.lemmas.List.Sorted.{IsNonDecreasingBy-drop, IsNonDecreasingBy-take, IsPartitionPoint-from_clause, IsPartitionedBy-ltb}
use Rattle.search_words.proofs.ListLemmas.{in_behind, in_rest}
use Rattle.search_words.proofs.lists.behind.Goals as goal

pub returns-in-Some-clause-all : goal.returns-in-Some-clause-all
returns-in-Some-clause-all c =
    let xs = c.args.list.now in
    let low = IsPartitionPoint-from_clause (λ p. ltb p c.args.from) _ _ c.partition_point.ensures.partitioned (IsPartitionedBy-ltb (λ p. p) _ c.args.from c.requires) (λ a r q k. search rules) in
    λ b there late. in_rest xs c.partition_point.result b (in_behind xs c.partition_point.result c.args.from (λ k d l. ltb-true _ _ (low.0 k d (omega arith) l)) b there late)

pub returns-in-Some-clause-rise : goal.returns-in-Some-clause-rise
returns-in-Some-clause-rise c =
    let xs = c.args.list.now in
    let n = c.partition_point.result in
    IsNonDecreasingBy-take (λ x. x) (length xs - n) (drop n xs) (IsNonDecreasingBy-drop (λ x. x) n xs c.requires)
