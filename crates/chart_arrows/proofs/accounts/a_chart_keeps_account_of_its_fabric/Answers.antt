use Rattle.chart_links.specs.ChartView.{new_chart}
use Rattle.chart_arrows.proofs.Keeping as keeping
use Rattle.chart_arrows.proofs.accounts.a_chart_keeps_account_of_its_fabric.Goals as goal

pub returns : goal.returns
returns c = record {
  new = λ config f window is_new. keeping.accounts_new config f window is_new;
  kept = λ f f' event what row cs sound happens all. (keeping.kept c.wire_bytes_tell_the_packet.ensures.entered c.packets_keep_their_ports.ensures.asks f f' event what row cs sound happens all).accounts;
  always = λ config window tales f left is_new happened.
      keeping.all_kept c.wire_bytes_tell_the_packet.ensures.entered c.packets_keep_their_ports.ensures.asks c.each_event_keeps_it_sound.ensures.sound tales (new_chart window config.requesters) f left
      (c.a_new_fabric_is_sound.ensures.sound config f is_new) (keeping.accounts_new config f window is_new) happened;
}
