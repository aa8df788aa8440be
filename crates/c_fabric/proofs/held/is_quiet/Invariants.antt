use Rattle.c_fabric.proofs.held.is_quiet.Given as goal

abbrev pub ghost-open : goal.ghost-open
ghost-open g a = g.session
