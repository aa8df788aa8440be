use Rattle.pciex_c.proofs.monitor.pciex_raw_monitor_free.Given as goal

abbrev pub ghost-free_monitor : goal.ghost-free_monitor
ghost-free_monitor g a = g.held
