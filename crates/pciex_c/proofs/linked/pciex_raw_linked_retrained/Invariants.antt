use Rattle.pciex_c.proofs.linked.pciex_raw_linked_retrained.Given as goal

abbrev pub ghost-retrain_link : goal.ghost-retrain_link
ghost-retrain_link g a = g.session
