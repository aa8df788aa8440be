use Rattle.pciex_c.proofs.linked.pciex_raw_linked_trace.Given as goal

abbrev pub ghost-tell_trace : goal.ghost-tell_trace
ghost-tell_trace g a = g.session
