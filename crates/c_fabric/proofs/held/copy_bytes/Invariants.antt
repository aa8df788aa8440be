use Rattle.c_fabric.proofs.held.copy_bytes.Given as goal

abbrev pub ghost-open : goal.ghost-open
ghost-open g a = g.session
