use Rattle.std.proofs.Common.{inl, inr}
use Rattle.search_choices.proofs.Covering.{not_false}
use Rattle.search_choices.proofs.offers.is_open.Goals as goal

pub returns-then-is_preceded-clause-no : goal.returns-then-is_preceded-clause-no
returns-then-is_preceded-clause-no c = λ no may. inl (c.is_preceded.ensures c.if-is_preceded.true)

pub returns-clause-no : goal.returns-clause-no
returns-clause-no c = λ no may. inr (c.is_idle.ensures (not_false c.is_idle.result no))
