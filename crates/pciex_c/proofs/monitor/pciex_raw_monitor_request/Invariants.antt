use Rattle.pciex_c.proofs.monitor.pciex_raw_monitor_request.Given as goal

abbrev pub ghost-tell_request : goal.ghost-tell_request
ghost-tell_request g a = g.held
