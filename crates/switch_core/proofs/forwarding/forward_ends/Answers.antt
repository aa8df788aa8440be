use Rattle.switch_core.proofs.forwarding.forward_ends.Goals as goal

pub returns-in-Ok-clause-ok : goal.returns-in-Ok-clause-ok
returns-in-Ok-clause-ok c = record {
  packet = c.in-Some.tlp.now;
  mark = c.in-Some.mark;
  takeable = c.in-Some.ensures.item.0;
  there = c.in-Some.ensures.item.1;
  may = c.in-Ok.ensures.may;
  spelled = c.in-Ok.ensures.spelled;
  sent = c.in-Ok.ensures.ok;
  left = c.take.ensures.state;
}
