use Rattle.pciex_c.proofs.device.pciex_raw_device_entry.Given as goal

abbrev pub ghost-tell_entry : goal.ghost-tell_entry
ghost-tell_entry g a = g.memory
