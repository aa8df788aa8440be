use Rattle.pciex_c.proofs.linked.pciex_raw_linked_bytes.Given as goal

abbrev pub ghost-copy_bytes : goal.ghost-copy_bytes
ghost-copy_bytes g a = g.session
