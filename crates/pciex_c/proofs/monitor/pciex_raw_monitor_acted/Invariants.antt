use Rattle.pciex_c.proofs.monitor.pciex_raw_monitor_acted.Given as goal

abbrev pub ghost-tell_acted : goal.ghost-tell_acted
ghost-tell_acted g a = g.held
