use Rattle.pciex_c.proofs.endpoint.pciex_raw_endpoint_free.Given as goal

abbrev pub ghost-free_endpoint : goal.ghost-free_endpoint
ghost-free_endpoint g a = g.session
