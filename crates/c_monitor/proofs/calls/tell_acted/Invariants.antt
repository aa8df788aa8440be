use Rattle.c_monitor.proofs.calls.tell_acted.Given as goal

abbrev pub ghost-open : goal.ghost-open
ghost-open g a = g.monitor
