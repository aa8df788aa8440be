use Rattle.dllp_core.specs.declared.packet.Class.TheVariants.{Posted, NonPosted, Completion}
use Rattle.flow_control.specs.Credits.{class_spent}
use Rattle.flow_control.proofs.Within.{spent_within, with_within}
use Rattle.flow_control.proofs.gate.CreditGate.consume.Goals as goal

pub invariant_of-self : goal.invariant_of-self
invariant_of-self c =
    rw c.consume.ensures
    (with_within (record { posted = c.self.inside.posted; non_posted = c.self.inside.non_posted; completion = c.self.inside.completion }) Posted (class_spent c.self.inside.posted c.args.need.header c.args.need.units) c.self.invariant
    (spent_within c.self.inside.posted c.args.need.header c.args.need.units (c.self.invariant Posted)))

pub invariant_of-self-in-NonPosted : goal.invariant_of-self-in-NonPosted
invariant_of-self-in-NonPosted c =
    rw c.consume-in-NonPosted.ensures
    (with_within (record { posted = c.self.inside.posted; non_posted = c.self.inside.non_posted; completion = c.self.inside.completion }) NonPosted (class_spent c.self.inside.non_posted c.args.need.header c.args.need.units) c.self.invariant
    (spent_within c.self.inside.non_posted c.args.need.header c.args.need.units (c.self.invariant NonPosted)))

pub invariant_of-self-in-Completion : goal.invariant_of-self-in-Completion
invariant_of-self-in-Completion c =
    rw c.consume-in-Completion.ensures
    (with_within (record { posted = c.self.inside.posted; non_posted = c.self.inside.non_posted; completion = c.self.inside.completion }) Completion (class_spent c.self.inside.completion c.args.need.header c.args.need.units) c.self.invariant
    (spent_within c.self.inside.completion c.args.need.header c.args.need.units (c.self.invariant Completion)))
