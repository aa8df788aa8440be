use Rattle.fabric_core.proofs.OneNew.{one_new, one_fault}
use Rattle.fabric_core.proofs.laws.a_configuration_has_one_answer.Goals as goal

pub returns : goal.returns
returns c = record {
  new = one_new;
  fault = one_fault;
}
