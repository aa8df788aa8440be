use Rattle.pciex_c.proofs.device.pciex_raw_device_free.Given as goal

abbrev pub ghost-free_device : goal.ghost-free_device
ghost-free_device g a = g.memory
