use Rattle.pciex_c.proofs.device.pciex_raw_device_bytes.Given as goal

abbrev pub ghost-copy_bytes : goal.ghost-copy_bytes
ghost-copy_bytes g a = g.memory
