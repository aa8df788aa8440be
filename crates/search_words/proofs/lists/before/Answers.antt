use Rattle.std.proofs.Common.{ltb, rules, ◌≡◌, ◌∙◌, sym, Bool, true, false}
use Rattle.std.proofs.lemmas.Bool.{lt-ltb}
use Rattle.std.proofs.lemmas.List.Sorted.{IsPartitionPoint-from_clause, IsPartitionedBy-ltb}
use Rattle.search_words.proofs.ListLemmas.{in_before}
use Rattle.search_words.proofs.lists.before.Goals as goal

clash : {t : Bool} → t ≡ true → t ≡ false → ⊥
clash p q = let e : true ≡ false = sym p ∙ q in cc

pub returns-in-Some : goal.returns-in-Some
returns-in-Some c =
    let xs = c.args.list.now in
    let high = IsPartitionPoint-from_clause (λ p. ltb p c.args.to) _ _ c.partition_point.ensures.partitioned (IsPartitionedBy-ltb (λ p. p) _ c.args.to c.requires) (λ a r q k. search rules) in
    in_before xs c.partition_point.result c.args.to (λ k d l within below. clash (lt-ltb _ _ below) (high.1 k d l within))
