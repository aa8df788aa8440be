use Rattle.step_engine.proofs.Traced.{Laws, Answers, text_is, status_is, is_explained, is_clocked}
use Rattle.step_engine.proofs.laws.what_a_script_does_is_explained.Goals as goal

laws_of : goal.After-the_trace_belongs → Laws
laws_of c = record {
  sound = c.a_new_fabric_is_sound.ensures.sound;
  empty = c.a_new_fabric_is_sound.ensures.belongs;
  step = c.each_event_keeps_it_sound.ensures.step;
  keeps = c.each_event_keeps_it_sound.ensures.sound;
  run = c.the_trace_belongs.ensures.run;
  explained = c.the_trace_belongs.ensures.explained;
  clocked = c.the_trace_belongs.ensures.clocked;
}

answers_of : goal.After-the_trace_belongs → Answers
answers_of c = record {
  new = c.a_configuration_has_one_answer.ensures.new;
  refused = c.each_event_has_one_answer.ensures.refused;
}

pub returns : goal.returns
returns c = record {
  text = text_is (answers_of c);
  status = status_is (answers_of c);
  explained = is_explained (laws_of c);
  clocked = is_clocked (laws_of c);
}
