use Rattle.lane_core.proofs.Below.{Below}
use Rattle.lane_core.proofs.Turned.{turned_flushed, turned_right, turned_content, turned_queue}
use Rattle.lane_core.proofs.laws.a_turn_flushes_a_lane.Goals as goal

pub returns : goal.returns
returns c =
    let laws : Below =
    record {
      read = c.reading_is_spelling.ensures.read;
      header = c.limits_let_each_packet_go.ensures.header;
      units = c.limits_let_each_packet_go.ensures.units;
      account = c.counters_stand_for_whole_numbers.ensures.account;
      right = c.counters_stand_for_whole_numbers.ensures.right;
      room = c.counters_stand_for_whole_numbers.ensures.room;
    } in
    let keeps = c.each_event_keeps_the_account.ensures.kept in
    record { flushed = turned_flushed laws keeps; right = turned_right; content = turned_content laws.read; queue = turned_queue laws keeps }
