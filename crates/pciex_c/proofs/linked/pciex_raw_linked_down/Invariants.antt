use Rattle.pciex_c.proofs.linked.pciex_raw_linked_down.Given as goal

abbrev pub ghost-link_down : goal.ghost-link_down
ghost-link_down g a = g.session
