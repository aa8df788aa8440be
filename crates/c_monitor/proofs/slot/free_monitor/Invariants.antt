use Rattle.c_monitor.proofs.slot.free_monitor.Given as goal

abbrev pub ghost-open : goal.ghost-open
ghost-open g a = g.monitor
