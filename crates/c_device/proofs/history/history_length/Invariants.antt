use Rattle.c_device.proofs.history.history_length.Given as goal

abbrev pub ghost-open : goal.ghost-open
ghost-open g a = g.memory
