use Rattle.endpoint_log.proofs.log.Log.+submit_all.Given as goal

abbrev pub decreases-submit_all : goal.decreases-submit_all
decreases-submit_all l = l.turns
