use Rattle.std.proofs.Common.{◌++◌}
use Rattle.tlp_laws.proofs.ByTlp.{is_by_tlp}
use Rattle.tlp_laws.proofs.tlp_answers_what_a_fabric_does.Goals as goal

pub returns : goal.returns
returns c = λ f g rs told port op t h asks id. is_by_tlp f.memory g.memory port op (rs ++ told) t (c.a_lone_request_is_answered_by_the_memory.ensures f g rs told port op h) asks id
