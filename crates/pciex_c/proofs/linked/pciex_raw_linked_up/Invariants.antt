use Rattle.pciex_c.proofs.linked.pciex_raw_linked_up.Given as goal

abbrev pub ghost-link_up : goal.ghost-link_up
ghost-link_up g a = g.session
