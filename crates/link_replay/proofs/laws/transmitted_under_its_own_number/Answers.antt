use Rattle.link_replay.specs.SenderView.{fresh}
use Rattle.link_replay.specs.Runs.{after_calls, accepted_in}
use Rattle.link_replay.proofs.KeptLemmas.{run_keeps, sent_is_kept}
use Rattle.link_replay.proofs.laws.transmitted_under_its_own_number.Goals as goal

pub returns : goal.returns
returns c = λ calls are. sent_is_kept (accepted_in fresh calls) (after_calls fresh calls) (run_keeps calls are)
