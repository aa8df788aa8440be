use Rattle.pciex_c.proofs.fabric.pciex_raw_fabric_script.Given as goal

abbrev pub ghost-tell_script : goal.ghost-tell_script
ghost-tell_script g a = g.session
