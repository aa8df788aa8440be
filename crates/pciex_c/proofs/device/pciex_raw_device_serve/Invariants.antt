use Rattle.pciex_c.proofs.device.pciex_raw_device_serve.Given as goal

abbrev pub ghost-serve_packet : goal.ghost-serve_packet
ghost-serve_packet g a = g.memory
