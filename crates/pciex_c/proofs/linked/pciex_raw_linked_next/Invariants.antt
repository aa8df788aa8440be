use Rattle.pciex_c.proofs.linked.pciex_raw_linked_next.Given as goal

abbrev pub ghost-tell_next : goal.ghost-tell_next
ghost-tell_next g a = g.session
