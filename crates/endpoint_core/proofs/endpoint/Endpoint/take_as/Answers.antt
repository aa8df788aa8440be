use Rattle.endpoint_core.proofs.endpoint.Endpoint.take_as.Goals as goal

pub post-requires : goal.post-requires
post-requires c = c.requires.posted c.in-Posted.request cc

pub of-requires : goal.of-requires
of-requires c = c.requires.non_posted c.in-NonPosted.request cc
