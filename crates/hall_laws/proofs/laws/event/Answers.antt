use Rattle.hall_laws.proofs.Events.{event_releases}
use Rattle.hall_laws.proofs.laws.event.Goals as goal

pub release-requires-clause-rule : goal.release-requires-clause-rule
release-requires-clause-rule g c = event_releases
    (record { step = c.each_event_keeps_it_sound.ensures.step; sound = c.each_event_keeps_it_sound.ensures.sound; belongs = c.the_trace_belongs.ensures.run; begins = c.the_trace_belongs.ensures.begins; asks = c.packets_keep_their_ports.ensures.asks })
    c.requires.event.0 c.requires.event.1 _ _ _ _ c.requires.token.0 c.requires.token.2 c.requires.event.2
