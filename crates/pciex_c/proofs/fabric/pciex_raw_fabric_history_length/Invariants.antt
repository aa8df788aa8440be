use Rattle.pciex_c.proofs.fabric.pciex_raw_fabric_history_length.Given as goal

abbrev pub ghost-history_length : goal.ghost-history_length
ghost-history_length g a = g.session
