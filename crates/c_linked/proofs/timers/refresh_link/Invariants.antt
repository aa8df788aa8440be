use Rattle.c_linked.proofs.timers.refresh_link.Given as goal

abbrev pub ghost-open : goal.ghost-open
ghost-open g a = g.session
