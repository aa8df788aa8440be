use Rattle.pciex_c.proofs.linked.pciex_raw_linked_packet.Given as goal

abbrev pub ghost-take_packet : goal.ghost-take_packet
ghost-take_packet g a = g.session
