use Rattle.lane_core.proofs.Below.{Below}
use Rattle.lane_core.proofs.Whole.{whole_numbers, unused}
use Rattle.lane_core.proofs.Sums.{used_is, given_is}
use Rattle.lane_core.proofs.laws.credits_are_whole_numbers.Goals as goal

pub returns : goal.returns
returns c =
    let laws : Below =
    record {
      read = c.reading_is_spelling.ensures.read;
      header = c.limits_let_each_packet_go.ensures.header;
      units = c.limits_let_each_packet_go.ensures.units;
      account = c.counters_stand_for_whole_numbers.ensures.account;
      right = c.counters_stand_for_whole_numbers.ensures.right;
      room = c.counters_stand_for_whole_numbers.ensures.room;
    } in
    record { used = used_is laws; given = given_is laws; whole = whole_numbers laws; unused = unused laws }
