use Rattle.chart_arrows.proofs.Drawn.{is_sent, is_arrived, is_forwarded, is_served, is_collected}
use Rattle.chart_arrows.proofs.deeds.packets_are_drawn_as_they_are.Goals as goal

pub returns : goal.returns
returns c = record {
  sent = λ f cs row lane e cargo number all has there. is_sent f cs row lane e cargo number all has there;
  arrived = λ f cs row lane e p fate arrival all has there. is_arrived f cs row lane e p fate arrival all has there;
  forwarded = λ f cs row lane e x place port all has there. is_forwarded f cs row lane e x place port all has there;
  served = λ f cs row x place index all there. is_served f cs row x place index all there;
  collected = λ f cs row port e x what all has there. is_collected f cs row port e x what all has there;
}
