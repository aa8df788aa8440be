use Rattle.hall_laws.proofs.Answered.{collect_tells, sees_tells}
use Rattle.hall_laws.proofs.Owing.{collect_goes}
use Rattle.hall_laws.proofs.Refusing.{collect_refused}
use Rattle.hall_laws.proofs.duties.collecting.Goals as goal

pub returns-clause-owes : goal.returns-clause-owes
returns-clause-owes c = collect_goes

pub returns-clause-refused : goal.returns-clause-refused
returns-clause-refused c = collect_refused

pub returns-clause-tells : goal.returns-clause-tells
returns-clause-tells c = collect_tells
    (record { step = c.each_event_keeps_it_sound.ensures.step; sound = c.each_event_keeps_it_sound.ensures.sound; belongs = c.the_trace_belongs.ensures.run; begins = c.the_trace_belongs.ensures.begins; asks = c.packets_keep_their_ports.ensures.asks })
    c.the_trace_belongs.ensures.explained

pub returns-clause-looked : goal.returns-clause-looked
returns-clause-looked c = sees_tells
