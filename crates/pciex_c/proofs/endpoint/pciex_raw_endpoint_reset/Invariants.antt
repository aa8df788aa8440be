use Rattle.pciex_c.proofs.endpoint.pciex_raw_endpoint_reset.Given as goal

abbrev pub ghost-reset_endpoint : goal.ghost-reset_endpoint
ghost-reset_endpoint g a = g.session
