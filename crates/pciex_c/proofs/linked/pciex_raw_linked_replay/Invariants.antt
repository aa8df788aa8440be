use Rattle.pciex_c.proofs.linked.pciex_raw_linked_replay.Given as goal

abbrev pub ghost-replay_link : goal.ghost-replay_link
ghost-replay_link g a = g.session
