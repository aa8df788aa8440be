use Rattle.std.proofs.Common.{◌∙◌, ◌/◌, ◌%◌, ap, arith}
use Rattle.std.proofs.lemmas.Bool.{eqb-true}
use Rattle.seq_memory.specs.Limits.{Extent}
use Rattle.search_words.proofs.words.has_whole_words.Goals as goal

pub returns-then-offset-eq0 : goal.returns-then-offset-eq0
returns-then-offset-eq0 c = λ so. record {
  word = c.in-Some.offset / 4;
  place = omega (arith, c.in-Some.ensures, c.address.ensures, c.if-offset-eq0.true, c.base.ensures.value ∙ ap (λ (e : Extent). e.base) c.extent.ensures);
  count = c.size.result / 4;
  whole = omega (arith, c.size.ensures.value, eqb-true (c.size.result % 4) 0 so);
}
