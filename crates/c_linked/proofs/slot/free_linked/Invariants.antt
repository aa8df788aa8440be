use Rattle.c_linked.proofs.slot.free_linked.Given as goal

abbrev pub ghost-open : goal.ghost-open
ghost-open g a = g.session
