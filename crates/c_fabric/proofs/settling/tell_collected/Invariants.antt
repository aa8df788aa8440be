use Rattle.c_fabric.proofs.settling.tell_collected.Given as goal

abbrev pub ghost-open : goal.ghost-open
ghost-open g a = g.session
