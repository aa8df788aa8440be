use Rattle.pciex_c.proofs.linked.pciex_raw_linked_refresh.Given as goal

abbrev pub ghost-refresh_link : goal.ghost-refresh_link
ghost-refresh_link g a = g.session
