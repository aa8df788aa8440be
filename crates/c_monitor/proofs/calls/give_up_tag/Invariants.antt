use Rattle.c_monitor.proofs.calls.give_up_tag.Given as goal

abbrev pub ghost-open : goal.ghost-open
ghost-open g a = g.monitor
