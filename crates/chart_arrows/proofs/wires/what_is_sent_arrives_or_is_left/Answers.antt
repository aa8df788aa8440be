use Rattle.chart_arrows.proofs.Keeping.{new_sent, new_sent_back}
use Rattle.chart_arrows.proofs.wires.what_is_sent_arrives_or_is_left.Goals as goal

pub returns : goal.returns
returns c = record {
  packets = λ config window lane tales f left is_new happened.
      new_sent c.wire_bytes_tell_the_packet.ensures.entered c.packets_keep_their_ports.ensures.asks c.each_event_keeps_it_sound.ensures.sound config window tales lane f left
      (c.a_new_fabric_is_sound.ensures.sound config f is_new) is_new happened;
  dllps = λ config window lane tales f left is_new happened.
      new_sent_back c.wire_bytes_tell_the_packet.ensures.entered c.packets_keep_their_ports.ensures.asks c.each_event_keeps_it_sound.ensures.sound config window tales lane f left
      (c.a_new_fabric_is_sound.ensures.sound config f is_new) is_new happened;
}
