use Rattle.pciex_c.proofs.fabric.pciex_raw_fabric_settle.Given as goal

abbrev pub ghost-settle_fabric : goal.ghost-settle_fabric
ghost-settle_fabric g a = g.session
