use Rattle.c_linked.proofs.timers.retrain_link.Given as goal

abbrev pub ghost-open : goal.ghost-open
ghost-open g a = g.session
