use Rattle.c_device.proofs.slot.free_device.Given as goal

abbrev pub ghost-open : goal.ghost-open
ghost-open g a = g.memory
