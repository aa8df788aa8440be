use Rattle.pciex_c.proofs.linked.pciex_raw_linked_status.Given as goal

abbrev pub ghost-link_status : goal.ghost-link_status
ghost-link_status g a = g.session
