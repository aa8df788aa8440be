use Rattle.hall_laws.proofs.Answered.{submit_tells}
use Rattle.hall_laws.proofs.Owing.{submit_goes}
use Rattle.hall_laws.proofs.Refusing.{submit_refused}
use Rattle.hall_laws.proofs.duties.submitting.Goals as goal

pub returns-clause-owes : goal.returns-clause-owes
returns-clause-owes c = submit_goes

pub returns-clause-refused : goal.returns-clause-refused
returns-clause-refused c = submit_refused

pub returns-clause-tells : goal.returns-clause-tells
returns-clause-tells c = submit_tells
    (record { step = c.each_event_keeps_it_sound.ensures.step; sound = c.each_event_keeps_it_sound.ensures.sound; belongs = c.the_trace_belongs.ensures.run; begins = c.the_trace_belongs.ensures.begins; asks = c.packets_keep_their_ports.ensures.asks })
