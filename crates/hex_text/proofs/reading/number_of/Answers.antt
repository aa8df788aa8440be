use Rattle.hex_text.proofs.HexLemmas.{two_bytes-first, two_bytes-second, four_digits-range}
use Rattle.hex_text.proofs.reading.number_of.Goals as goal

pub returns-clause-range : goal.returns-clause-range
returns-clause-range c = λ lt. four_digits-range c.args.a c.args.b c.args.c c.args.d _ _ _ _ c.first_high.ensures.value c.first_low.ensures.value c.second_high.ensures.value c.second_low.ensures.value lt

pub returns-clause-first : goal.returns-clause-first
returns-clause-first c = λ i lt. two_bytes-first c.args.a c.args.b c.args.c c.args.d i _ _ _ _ c.first_high.ensures.value c.first_low.ensures.value c.second_high.ensures.value c.second_low.ensures.value lt

pub returns-clause-second : goal.returns-clause-second
returns-clause-second c = λ i lt. two_bytes-second c.args.a c.args.b c.args.c c.args.d i _ _ _ _ c.first_high.ensures.value c.first_low.ensures.value c.second_high.ensures.value c.second_low.ensures.value lt
