use Rattle.c_fabric.proofs.happening.tell_event.Given as goal

abbrev pub ghost-open : goal.ghost-open
ghost-open g a = g.session
