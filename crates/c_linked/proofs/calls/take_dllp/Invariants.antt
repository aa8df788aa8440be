use Rattle.c_linked.proofs.calls.take_dllp.Given as goal

abbrev pub ghost-open : goal.ghost-open
ghost-open g a = g.session
