use Rattle.std.proofs.Common.{◌+◌, ◌-◌, ◌^◌, ◌<◌, ◌≤◌, ℕ, length, arith}
use Rattle.lane_core.specs.Steps.{LaneEndsView, IsShort}
use Rattle.lane_core.specs.Flushed.{IsEnough}
use Rattle.fabric_settle.proofs.Settling.{AllLaws, soon, quiet, reached, flushed_then}
use Rattle.fabric_settle.proofs.rest_laws.every_fabric_comes_to_rest.Goals as goal

-- each call that a turn tries until it is refused is refused at last
enough : (e : LaneEndsView) → IsShort e → IsEnough (2 ^ 64 - 1) e
enough e h = record { packets = room (length e.forward) 2047 h.packets (omega arith); dllps = room (length e.back) 4 h.dllps (omega arith) }
  where
    room : (n most : ℕ) → n < 2 ^ 63 → most ≤ 2047 → n + most ≤ 2 ^ 64 - 1
    room n most h k = omega arith

pub returns : goal.returns
returns c =
    let hops = c.a_flushed_fabric_is_not_stuck.ensures in
    let l : AllLaws = record {
      fabric = record {
        happens = c.what_is_answered_happens.ensures;
        sound = c.each_event_keeps_it_sound.ensures.sound;
        hop = hops.hop;
        link = hops.link;
      };
      lane = record { strange = c.never_a_protocol_error.ensures; right = c.each_call_keeps_it_right.ensures.right };
      flushes = λ credits e right short. c.a_turn_flushes_a_lane.ensures.flushed credits e (2 ^ 64 - 1) right (enough e short);
      parts = c.each_event_happens_by_its_parts.ensures;
      goes = hops.goes;
      none = hops.none;
      few = c.few_hops_are_left.ensures;
    } in
    record { quiet = quiet l; soon = soon l; reached = reached l; flushed = flushed_then l }
