use Rattle.port_core.proofs.Given.{still_kept}
use Rattle.port_core.proofs.port.LinkPort.acknowledge.Goals as goal

pub invariant_of-self : goal.invariant_of-self
invariant_of-self c =
    let h = still_kept c.self.inside.sender c.args.number c.self.inside.given c.args.is_nak c.self.invariant.1 in
    (c.self.invariant.0, rw (c.acknowledge-expected.ensures.state, c.from-count.ensures, c.distance.ensures.value, c.ackd_seq.ensures, c.sending.ensures) h)
