use Rattle.std.proofs.Common.{◌∙◌, subst, sym, ap}
use Rattle.std.specs.List.{All}
use Rattle.search_places.specs.Known.{IsDeadEntry}
use Rattle.search_places.proofs.memo.Memo.add.Goals as goal

pub returns-in_err-reserve-clause-dead : goal.returns-in_err-reserve-clause-dead
returns-in_err-reserve-clause-dead c = λ log known dead. subst (All (IsDeadEntry log)) (sym c.in_err-reserve.ensures.items) known

pub returns-in_err-put-clause-dead : goal.returns-in_err-put-clause-dead
returns-in_err-put-clause-dead c = λ log known dead. subst (All (IsDeadEntry log)) (sym (ap (λ es. es.items) c.in_err-put.ensures.entries ∙ c.in_ok-reserve.ensures.items)) known

pub returns-clause-dead : goal.returns-clause-dead
returns-clause-dead c = λ log known dead. c.push.ensures log (subst (All (IsDeadEntry log)) (sym (ap (λ es. es.items) c.in_ok-put.ensures.entries ∙ c.in_ok-reserve.ensures.items)) known) dead
