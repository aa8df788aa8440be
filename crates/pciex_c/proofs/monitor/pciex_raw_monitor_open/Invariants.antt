use Rattle.pciex_c.proofs.monitor.pciex_raw_monitor_open.Given as goal

abbrev pub ghost-count_open : goal.ghost-count_open
ghost-count_open g a = g.held
