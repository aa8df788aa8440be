use Rattle.c_fabric.proofs.held.history_length.Given as goal

abbrev pub ghost-open : goal.ghost-open
ghost-open g a = g.session
