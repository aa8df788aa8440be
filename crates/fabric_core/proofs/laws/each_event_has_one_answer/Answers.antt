use Rattle.fabric_core.proofs.OneRefusal.{one_refusal}
use Rattle.fabric_core.proofs.NeverMemory.{would_happen}
use Rattle.fabric_core.proofs.laws.each_event_has_one_answer.Goals as goal

pub returns : goal.returns
returns c = record {
  happens = λ f f' event what h. h.0;
  refused = one_refusal;
  memory = would_happen;
}
