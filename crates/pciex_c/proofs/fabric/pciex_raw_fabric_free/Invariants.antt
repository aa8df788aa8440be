use Rattle.pciex_c.proofs.fabric.pciex_raw_fabric_free.Given as goal

abbrev pub ghost-free_fabric : goal.ghost-free_fabric
ghost-free_fabric g a = g.session
