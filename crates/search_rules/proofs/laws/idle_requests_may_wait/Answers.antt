use Rattle.log_runs.specs.Runs.{Live}
use Rattle.search_rules.proofs.IdleLemmas.{idle_may_wait, idle_alike}
use Rattle.search_rules.proofs.laws.idle_requests_may_wait.Goals as goal

pub returns-clause-dead : goal.returns-clause-dead
returns-clause-dead c = λ log s more all live.
    idle_may_wait c.apart_requests_commute.ensures.answer c.apart_requests_commute.ensures.after c.only_the_place_changes.ensures.others c.only_the_place_changes.ensures.size log s more ⊥ all live

pub returns-clause-live : goal.returns-clause-live
returns-clause-live c = λ log s t more all live.
    idle_may_wait c.apart_requests_commute.ensures.answer c.apart_requests_commute.ensures.after c.only_the_place_changes.ensures.others c.only_the_place_changes.ensures.size log s more (Live log t) all live

pub returns-clause-alike : goal.returns-clause-alike
returns-clause-alike c = idle_alike
