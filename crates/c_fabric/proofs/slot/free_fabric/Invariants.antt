use Rattle.c_fabric.proofs.slot.free_fabric.Given as goal

abbrev pub ghost-open : goal.ghost-open
ghost-open g a = g.session
