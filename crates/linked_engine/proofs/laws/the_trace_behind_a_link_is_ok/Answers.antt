use Rattle.std.proofs.Common.{◌∙◌, ap, ℕ, List}
use Rattle.trace_engine.specs.Check.{out_check_clocked}
use Rattle.linked_engine.specs.Traces.{asked}
use Rattle.linked_engine.proofs.Traced.{Law, told_after, recorded_as}
use Rattle.linked_engine.proofs.laws.the_trace_behind_a_link_is_ok.Goals as goal

pub returns : goal.returns
returns c =
    let calls : Law = record { first = c.each_call_is_recorded.ensures.first; next = c.each_call_is_recorded.ensures.next; turns = c.a_settled_device_is_at_rest.ensures.turns } in
    let law = c.a_recorded_trace_is_ok.ensures in
    record {
      tellable = λ s ours has_crc input l h e n. law.tellable s (asked s ours has_crc input).linked.endpoint l h (recorded_as calls s ours has_crc input l e) n;
      ok = λ s ours has_crc input l h e n. ap (λ (t : List ℕ). (out_check_clocked t).text) (told_after s ours has_crc input l e) ∙ law.ok s (asked s ours has_crc input).linked.endpoint l h (recorded_as calls s ours has_crc input l e) n;
      status = λ s ours has_crc input l h e n. ap (λ (t : List ℕ). (out_check_clocked t).status) (told_after s ours has_crc input l e) ∙ law.status s (asked s ours has_crc input).linked.endpoint l h (recorded_as calls s ours has_crc input l e) n;
    }
