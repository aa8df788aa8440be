use Rattle.std.proofs.lemmas.List.Sorted.{IsNonDecreasingBy-take}
use Rattle.search_words.proofs.ListLemmas.{in_few}
use Rattle.search_words.proofs.lists.near.Goals as goal

pub returns-then-list-to-clause-rise : goal.returns-then-list-to-clause-rise
returns-then-list-to-clause-rise c = IsNonDecreasingBy-take (λ x. x) 8 c.args.list.now c.requires

pub returns-then-list-to-clause-all : goal.returns-then-list-to-clause-all
returns-then-list-to-clause-all c = in_few c.args.list.now 8 c.args.to _ c.requires c.if-list-gt-FEW.true c.if-list-to.true
