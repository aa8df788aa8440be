use Rattle.trace_text.proofs.RewriteLemmas.{rewriting-is-reading}
use Rattle.trace_text.proofs.laws.a_rewriting_is_a_reading.Goals as goal

pub returns : goal.returns
returns c = rewriting-is-reading
