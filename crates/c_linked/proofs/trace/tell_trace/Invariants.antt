use Rattle.c_linked.proofs.trace.tell_trace.Given as goal

abbrev pub ghost-open : goal.ghost-open
ghost-open g a = g.session
