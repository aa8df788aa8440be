use Rattle.trace_text.proofs.ToldLemmas.{can-be-told}
use Rattle.trace_text.proofs.laws.what_is_read_can_be_told.Goals as goal

pub returns : goal.returns
returns c = can-be-told c.own_digits_spell_number.ensures.range
