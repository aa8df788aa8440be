use Rattle.trace_text.proofs.ToldLemmas.{request-is, memory-is}
use Rattle.trace_text.proofs.laws.fields_can_be_told.Goals as goal

pub returns-clause-request : goal.returns-clause-request
returns-clause-request c = λ v w i k hi hk. request-is c.own_digits_spell_number.ensures.range i k (v, hi) (w, hk)

pub returns-clause-memory : goal.returns-clause-memory
returns-clause-memory c = memory-is
