use Rattle.pciex_c.proofs.fabric.pciex_raw_fabric_settled.Given as goal

abbrev pub ghost-tell_collected : goal.ghost-tell_collected
ghost-tell_collected g a = g.session
