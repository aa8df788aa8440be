use Rattle.c_linked.proofs.slot.open.Given as goal

abbrev pub ghost-into_parts : goal.ghost-into_parts
ghost-into_parts g a = g.session
