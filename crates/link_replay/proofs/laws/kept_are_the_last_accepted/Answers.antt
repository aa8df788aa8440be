use Rattle.link_replay.specs.SenderView.{fresh}
use Rattle.link_replay.specs.Runs.{after_calls, accepted_in}
use Rattle.link_replay.proofs.KeptLemmas.{run_keeps, next_counts}
use Rattle.link_replay.proofs.laws.kept_are_the_last_accepted.Goals as goal

pub returns-clause-kept : goal.returns-clause-kept
returns-clause-kept c = run_keeps

pub returns-clause-next : goal.returns-clause-next
returns-clause-next c = λ calls are. next_counts (accepted_in fresh calls) (after_calls fresh calls) (run_keeps calls are)
