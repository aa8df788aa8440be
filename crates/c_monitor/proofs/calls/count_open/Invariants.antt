use Rattle.c_monitor.proofs.calls.count_open.Given as goal

abbrev pub ghost-open : goal.ghost-open
ghost-open g a = g.monitor
