use Rattle.lane_core.proofs.Below.{Below}
use Rattle.lane_core.proofs.Room.{Credits, empty_takes, infinite_takes}
use Rattle.lane_core.proofs.laws.an_empty_flushed_lane_takes_any_packet.Goals as goal

pub returns : goal.returns
returns c =
    let laws : Below =
    record {
      read = c.reading_is_spelling.ensures.read;
      header = c.limits_let_each_packet_go.ensures.header;
      units = c.limits_let_each_packet_go.ensures.units;
      account = c.counters_stand_for_whole_numbers.ensures.account;
      right = c.counters_stand_for_whole_numbers.ensures.right;
      room = c.counters_stand_for_whole_numbers.ensures.room;
    } in
    let credits : Credits =
    record { below = laws; first = c.limits_let_each_packet_go.ensures.first; all_known = c.an_account_is_right.ensures.all_known } in
    record { empty = empty_takes credits; infinite = infinite_takes credits }
