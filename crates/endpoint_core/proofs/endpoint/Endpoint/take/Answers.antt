use Rattle.std.proofs.Common.{sym, ◌∙◌}
use Rattle.endpoint_core.proofs.Coming.{posted_write, non_posted, poisoned_non_posted}
use Rattle.endpoint_core.proofs.endpoint.Endpoint.take.Goals as goal

pub take_as-requires-clause-posted : goal.take_as-requires-clause-posted
take_as-requires-clause-posted c = λ t is. posted_write c.args.tlp.now t (sym c.receive-received.ensures.becomes ∙ is)

pub take_as-requires-clause-non_posted : goal.take_as-requires-clause-non_posted
take_as-requires-clause-non_posted c = λ t is. non_posted c.args.tlp.now t (sym c.receive-received.ensures.becomes ∙ is)

pub take_as-requires-clause-poisoned : goal.take_as-requires-clause-poisoned
take_as-requires-clause-poisoned c = λ t is. poisoned_non_posted c.args.tlp.now t (sym c.receive-received.ensures.becomes ∙ is)
