use Rattle.pciex_c.proofs.monitor.pciex_raw_monitor_completion.Given as goal

abbrev pub ghost-tell_completion : goal.ghost-tell_completion
ghost-tell_completion g a = g.held
