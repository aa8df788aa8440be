use Rattle.lane_core.proofs.Sound.{entered_item}
use Rattle.lane_core.proofs.Kept.{sound, same_wire_number, same_wire_bytes, high_bits}
use Rattle.lane_core.proofs.laws.wire_bytes_tell_the_packet.Goals as goal

pub returns : goal.returns
returns c =
    record {
      entered = entered_item c.reading_is_spelling.ensures.read;
      under_way = λ e r. (sound c.reading_is_spelling.ensures.read e r).under_way;
      number = same_wire_number;
      bytes = same_wire_bytes;
      zero_bits = λ p h. high_bits p.number h;
    }
