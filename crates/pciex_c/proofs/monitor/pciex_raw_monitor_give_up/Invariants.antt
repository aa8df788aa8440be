use Rattle.pciex_c.proofs.monitor.pciex_raw_monitor_give_up.Given as goal

abbrev pub ghost-give_up_tag : goal.ghost-give_up_tag
ghost-give_up_tag g a = g.held
