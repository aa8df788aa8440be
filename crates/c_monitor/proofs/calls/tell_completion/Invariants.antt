use Rattle.c_monitor.proofs.calls.tell_completion.Given as goal

abbrev pub ghost-open : goal.ghost-open
ghost-open g a = g.monitor
