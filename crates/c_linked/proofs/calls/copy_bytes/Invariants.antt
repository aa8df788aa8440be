use Rattle.c_linked.proofs.calls.copy_bytes.Given as goal

abbrev pub ghost-open : goal.ghost-open
ghost-open g a = g.session
