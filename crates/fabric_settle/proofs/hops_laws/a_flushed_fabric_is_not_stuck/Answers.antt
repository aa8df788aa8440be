use Rattle.fabric_settle.proofs.Going.{Rooms, goes}
use Rattle.fabric_settle.proofs.Hopping.{Laws, hop, link}
use Rattle.fabric_settle.proofs.Nothing.{none}
use Rattle.fabric_settle.proofs.hops_laws.a_flushed_fabric_is_not_stuck.Goals as goal

pub returns : goal.returns
returns c =
    let l : Laws = record {
      keeps = c.each_call_keeps_it_right.ensures.content;
      asks = c.packets_keep_their_ports.ensures.asks;
      happens = c.what_is_answered_happens.ensures;
      parts = c.each_event_happens_by_its_parts.ensures;
    } in
    let rooms : Rooms = record {
      room = c.an_empty_flushed_lane_takes_any_packet.ensures.empty;
      held = c.what_a_lane_holds_is_spelled.ensures;
      completed = c.a_completion_is_spelled.ensures;
      finishes = c.no_completion_is_strange.ensures.finished;
      routed = c.no_completion_is_strange.ensures.routed;
    } in
    record { goes = goes rooms; hop = hop l; link = link l; none = none }
