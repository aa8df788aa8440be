use Rattle.c_linked.proofs.timers.link_status.Given as goal

abbrev pub ghost-open : goal.ghost-open
ghost-open g a = g.session
