use Rattle.pciex_c.proofs.endpoint.pciex_raw_endpoint_trace.Given as goal

abbrev pub ghost-tell_trace : goal.ghost-tell_trace
ghost-tell_trace g a = g.session
