use Rattle.pciex_c.proofs.fabric.pciex_raw_fabric_bytes.Given as goal

abbrev pub ghost-copy_bytes : goal.ghost-copy_bytes
ghost-copy_bytes g a = g.session
