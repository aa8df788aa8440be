use Rattle.pciex_c.proofs.endpoint.pciex_raw_endpoint_tlp.Given as goal

abbrev pub ghost-take_tlp : goal.ghost-take_tlp
ghost-take_tlp g a = g.session
