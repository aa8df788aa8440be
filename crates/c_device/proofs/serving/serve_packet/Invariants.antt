use Rattle.c_device.proofs.serving.serve_packet.Given as goal

abbrev pub ghost-open : goal.ghost-open
ghost-open g a = g.memory
