use Rattle.fabric_settle_laws.proofs.Settling.{settles, submits_none}
use Rattle.fabric_settle_laws.proofs.what_settles_happens.Goals as goal

pub returns : goal.returns
returns c = record {
  happens = settles (record { happens = c.what_is_answered_happens.ensures; sound = c.each_event_keeps_it_sound.ensures.sound });
  nothing = submits_none;
}
