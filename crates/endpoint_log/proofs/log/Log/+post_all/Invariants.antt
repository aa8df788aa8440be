use Rattle.endpoint_log.proofs.log.Log.+post_all.Given as goal

abbrev pub decreases-post_all : goal.decreases-post_all
decreases-post_all l = l.turns
