use Rattle.c_fabric.proofs.scripts.tell_script.Given as goal

abbrev pub ghost-open : goal.ghost-open
ghost-open g a = g.session
