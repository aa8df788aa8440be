use Rattle.linked_engine.specs.Traces.{asked}
use Rattle.linked_engine.proofs.Traced.{Law, is_traced, told_after, recorded_as}
use Rattle.linked_engine.proofs.laws.the_trace_behind_a_link_is_explained.Goals as goal

pub returns : goal.returns
returns c =
    let calls : Law = record { first = c.each_call_is_recorded.ensures.first; next = c.each_call_is_recorded.ensures.next; turns = c.a_settled_device_is_at_rest.ensures.turns } in
    let law = c.a_recorded_trace_is_ok.ensures in
    record {
      traced = is_traced calls;
      told = told_after;
      explained = λ s ours has_crc input l h e. law.explained s (asked s ours has_crc input).linked.endpoint l h (recorded_as calls s ours has_crc input l e);
      clocked = λ s ours has_crc input l h e. law.clocked s (asked s ours has_crc input).linked.endpoint l h (recorded_as calls s ours has_crc input l e);
    }
