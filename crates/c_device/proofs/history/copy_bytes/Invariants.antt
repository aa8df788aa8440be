use Rattle.c_device.proofs.history.copy_bytes.Given as goal

abbrev pub ghost-open : goal.ghost-open
ghost-open g a = g.memory
