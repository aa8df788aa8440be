use Rattle.pciex_c.proofs.linked.pciex_raw_linked_free.Given as goal

abbrev pub ghost-free_linked : goal.ghost-free_linked
ghost-free_linked g a = g.session
