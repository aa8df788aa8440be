use Rattle.tlp_laws.proofs.Growing.{EachEvent}
use Rattle.tlp_laws.proofs.Alone.{Laws, is_answered}
use Rattle.tlp_laws.proofs.a_lone_request_is_answered_by_the_memory.Goals as goal

pub returns : goal.returns
returns c = λ f g rs told port op h. is_answered (record {
  each = record { step = c.each_event_keeps_it_sound.ensures.step; sound = c.each_event_keeps_it_sound.ensures.sound };
  parts = c.each_event_happens_by_its_parts.ensures;
  sound = c.a_run_keeps_its_trace.ensures.sound;
  belongs = c.a_run_keeps_its_trace.ensures.belongs;
  explained = c.a_run_keeps_its_trace.ensures.explained;
  answered = c.each_request_is_answered_at_rest.ensures;
  acted = c.quiet_is_all_acted.ensures.acted;
  all = c.a_quiet_fabric_has_every_submission.ensures.all;
  counted = c.the_trace_belongs.ensures.counted;
  next = c.replies_stay.ensures.next;
}) f g rs told port op h
