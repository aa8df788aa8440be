use Rattle.pciex_c.proofs.fabric.pciex_raw_fabric_quiet.Given as goal

abbrev pub ghost-is_quiet : goal.ghost-is_quiet
ghost-is_quiet g a = g.session
