use Rattle.pciex_c.proofs.fabric.pciex_raw_fabric_event.Given as goal

abbrev pub ghost-tell_event : goal.ghost-tell_event
ghost-tell_event g a = g.session
