use Rattle.dllp_core.specs.declared.packet.Class.TheVariants.{Posted, NonPosted, Completion}
use Rattle.flow_control.specs.Credits.{class_limited}
use Rattle.flow_control.proofs.Within.{limited_within, with_within}
use Rattle.flow_control.proofs.gate.CreditGate.limit.Goals as goal

pub invariant_of-self : goal.invariant_of-self
invariant_of-self c =
    rw c.limit.ensures
    (with_within (record { posted = c.self.inside.posted; non_posted = c.self.inside.non_posted; completion = c.self.inside.completion }) Posted (class_limited c.self.inside.posted c.args.header c.args.units) c.self.invariant
    (limited_within c.self.inside.posted c.args.header c.args.units c.ranges.header.fits c.requires (c.self.invariant Posted)))

pub invariant_of-self-in-NonPosted : goal.invariant_of-self-in-NonPosted
invariant_of-self-in-NonPosted c =
    rw c.limit-in-NonPosted.ensures
    (with_within (record { posted = c.self.inside.posted; non_posted = c.self.inside.non_posted; completion = c.self.inside.completion }) NonPosted (class_limited c.self.inside.non_posted c.args.header c.args.units) c.self.invariant
    (limited_within c.self.inside.non_posted c.args.header c.args.units c.ranges.header.fits c.requires (c.self.invariant NonPosted)))

pub invariant_of-self-in-Completion : goal.invariant_of-self-in-Completion
invariant_of-self-in-Completion c =
    rw c.limit-in-Completion.ensures
    (with_within (record { posted = c.self.inside.posted; non_posted = c.self.inside.non_posted; completion = c.self.inside.completion }) Completion (class_limited c.self.inside.completion c.args.header c.args.units) c.self.invariant
    (limited_within c.self.inside.completion c.args.header c.args.units c.ranges.header.fits c.requires (c.self.invariant Completion)))
