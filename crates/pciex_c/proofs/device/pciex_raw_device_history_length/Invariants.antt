use Rattle.pciex_c.proofs.device.pciex_raw_device_history_length.Given as goal

abbrev pub ghost-history_length : goal.ghost-history_length
ghost-history_length g a = g.memory
