use Rattle.pciex_c.proofs.linked.pciex_raw_linked_dllp.Given as goal

abbrev pub ghost-take_dllp : goal.ghost-take_dllp
ghost-take_dllp g a = g.session
