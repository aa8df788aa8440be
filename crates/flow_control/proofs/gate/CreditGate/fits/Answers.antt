use Rattle.dllp_core.specs.declared.packet.Class.TheVariants.{Posted, NonPosted, Completion}
use Rattle.flow_control.proofs.Fits.{class_right, class_room, infinite_class}
use Rattle.flow_control.proofs.gate.CreditGate.fits.Goals as goal

pub returns-in-Posted-clause-right : goal.returns-in-Posted-clause-right
returns-in-Posted-clause-right c =
    rw (← c.self.view_is, c.in-Posted.is, c.fits.ensures) (class_right c.self.inside.posted c.args.need.header c.args.need.units)

pub returns-in-Posted-clause-room : goal.returns-in-Posted-clause-room
returns-in-Posted-clause-room c =
    rw (← c.self.view_is, c.in-Posted.is, c.fits.ensures) (class_room c.self.inside.posted c.args.need.header c.args.need.units (c.self.invariant Posted))

pub returns-in-Posted-clause-infinite : goal.returns-in-Posted-clause-infinite
returns-in-Posted-clause-infinite c =
    rw (← c.self.view_is, c.in-Posted.is, c.fits.ensures) (infinite_class c.self.inside.posted c.args.need.header c.args.need.units)

pub returns-in-NonPosted-clause-right : goal.returns-in-NonPosted-clause-right
returns-in-NonPosted-clause-right c =
    rw (← c.self.view_is, c.in-NonPosted.is, c.fits-in-NonPosted.ensures) (class_right c.self.inside.non_posted c.args.need.header c.args.need.units)

pub returns-in-NonPosted-clause-room : goal.returns-in-NonPosted-clause-room
returns-in-NonPosted-clause-room c =
    rw (← c.self.view_is, c.in-NonPosted.is, c.fits-in-NonPosted.ensures) (class_room c.self.inside.non_posted c.args.need.header c.args.need.units (c.self.invariant NonPosted))

pub returns-in-NonPosted-clause-infinite : goal.returns-in-NonPosted-clause-infinite
returns-in-NonPosted-clause-infinite c =
    rw (← c.self.view_is, c.in-NonPosted.is, c.fits-in-NonPosted.ensures) (infinite_class c.self.inside.non_posted c.args.need.header c.args.need.units)

pub returns-in-Completion-clause-right : goal.returns-in-Completion-clause-right
returns-in-Completion-clause-right c =
    rw (← c.self.view_is, c.in-Completion.is, c.fits-in-Completion.ensures) (class_right c.self.inside.completion c.args.need.header c.args.need.units)

pub returns-in-Completion-clause-room : goal.returns-in-Completion-clause-room
returns-in-Completion-clause-room c =
    rw (← c.self.view_is, c.in-Completion.is, c.fits-in-Completion.ensures) (class_room c.self.inside.completion c.args.need.header c.args.need.units (c.self.invariant Completion))

pub returns-in-Completion-clause-infinite : goal.returns-in-Completion-clause-infinite
returns-in-Completion-clause-infinite c =
    rw (← c.self.view_is, c.in-Completion.is, c.fits-in-Completion.ensures) (infinite_class c.self.inside.completion c.args.need.header c.args.need.units)
