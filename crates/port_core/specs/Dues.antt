-- What a port is to send besides packets and Naks.
use Rattle.std.specs.Prelude.{Bool, true, false, if◌then◌else◌, Option, Some, None}
use Rattle.dllp_core.specs.declared.packet.Class.{Class}
use Rattle.dllp_core.specs.declared.packet.Class.TheVariants.{Posted, NonPosted, Completion}
use Rattle.flow_control.specs.declared.limits.LaneCredits.{LaneCredits}
use Rattle.port_core.specs.declared.due.ClassFlags.{ClassFlags}
use Rattle.port_core.specs.declared.due.Due.{Due}
use Rattle.port_core.specs.declared.incoming.Received.{Received}
use Rattle.port_core.specs.declared.incoming.Received.TheVariants.{Dropped, Accepted, Duplicate, NakNow, Quiet}
use Rattle.port_core.specs.Init.{is_finite, first_of}

abbrev pub all_flags : Bool → ClassFlags
all_flags value = record { posted = value; non_posted = value; completion = value }

abbrev pub with_flag : ClassFlags → Class → Bool → ClassFlags
with_flag f Posted value = record { posted = value; non_posted = f.non_posted; completion = f.completion }
with_flag f NonPosted value = record { posted = f.posted; non_posted = value; completion = f.completion }
with_flag f Completion value = record { posted = f.posted; non_posted = f.non_posted; completion = value }

-- the first class whose flag is set: posted, non-posted, completion
abbrev pub first_flag : ClassFlags → Option Class
first_flag f =
    if f.posted then Some Posted
    else (if f.non_posted then Some NonPosted
    else (if f.completion then Some Completion
    else None))

abbrev pub nothing_due : Due
nothing_due = record { ack = false; init = all_flags false; update = all_flags false }

-- all InitFCs are due
abbrev pub due_all_init : Due → Due
due_all_init d = record { ack = d.ack; init = all_flags true; update = d.update }

abbrev pub due_ack : Due → Due
due_ack d = record { ack = true; init = d.init; update = d.update }

-- credits of a class went back: its UpdateFC is due, unless all of the class is infinite
abbrev pub due_freed : LaneCredits → Due → Class → Due
due_freed ours d class =
    if is_finite (first_of ours class) then record { ack = d.ack; init = d.init; update = with_flag d.update class true } else d

-- after what became of a packet: a packet that overflows gave its credits back
abbrev pub due_received : LaneCredits → Due → Received → Due
due_received ours d (Accepted (Some need) overflows) = if overflows then due_freed ours (due_ack d) need.class else due_ack d
due_received ours d (Accepted None overflows) = due_ack d
due_received ours d Duplicate = due_ack d
due_received ours d Dropped = d
due_received ours d NakNow = d
due_received ours d Quiet = d
