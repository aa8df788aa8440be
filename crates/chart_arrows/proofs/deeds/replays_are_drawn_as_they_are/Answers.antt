use Rattle.chart_arrows.proofs.Rests.{rests_at}
use Rattle.chart_arrows.proofs.Drawn.{expired, dllp_arrives}
use Rattle.chart_arrows.proofs.deeds.replays_are_drawn_as_they_are.Goals as goal

pub returns : goal.returns
returns c = record {
  expired = λ f f' cs row lane e e' what sound all happens has there. expired f cs row lane (what, f') all (λ e is. rests_at f lane e sound is) happens.0 e e' has there;
  arrived = λ f f' cs row lane fate e e' what sound all happens has there. dllp_arrives f cs row lane fate (what, f') all (λ e is. rests_at f lane e sound is) happens.0 e e' has there;
}
