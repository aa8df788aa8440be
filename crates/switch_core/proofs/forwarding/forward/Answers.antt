use Rattle.std.proofs.Common.{refl}
use Rattle.switch_core.proofs.forwarding.forward.Goals as goal

pub returns-in-Ok-clause-ok : goal.returns-in-Ok-clause-ok
returns-in-Ok-clause-ok c = record {
  packet = c.in-Some.packet.now;
  mark = c.in-Some.mark;
  takeable = c.in-Some.ensures.item.0;
  there = c.in-Some.ensures.item.1;
  may = c.in-Ok.ensures.may;
  spelled = c.in-Ok.ensures.spelled;
  sent = rw (c.in-Ok.ensures.ok, c.in-Ok.ensures.may) refl;
  left = rw (c.take.ensures.state, c.in-Some.ensures.item.0) refl;
}
