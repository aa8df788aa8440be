use Rattle.link_replay.specs.ReceiverView.{fresh}
use Rattle.link_replay.proofs.RunLemmas.{advanced, consecutive}
use Rattle.link_replay.proofs.receiver_laws.hands_up_what_it_advanced_by.Goals as goal

pub returns-clause-advanced : goal.returns-clause-advanced
returns-clause-advanced c = advanced

pub returns-clause-consecutive : goal.returns-clause-consecutive
returns-clause-consecutive c = consecutive

pub returns-clause-from_the_start : goal.returns-clause-from_the_start
returns-clause-from_the_start c = consecutive fresh
