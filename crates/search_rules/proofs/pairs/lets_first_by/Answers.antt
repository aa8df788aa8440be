use Rattle.std.proofs.Common.{◌∙◌, ap}
use Rattle.std.specs.Prelude.{slice_get}
use Rattle.seq_memory.specs.Limits.{Extent}
use Rattle.search_effects.specs.Effects.{told_of}
use Rattle.search_rules.proofs.PairLemmas.{sub_at}
use Rattle.search_rules.proofs.FirstLemmas.{first_by}
use Rattle.search_rules.proofs.pairs.lets_first_by.Goals as goal

pub returns-in-Some-Sub : goal.returns-in-Some-Sub
returns-in-Some-Sub c = λ yes.
    first_by c.args.log.now.extent (slice_get c.args.log.now.events c.args.q) c.in-Some-Sub.field-0-0 c.base.result c.args.one.now c.in-Some-Sub.op (told_of c.args.told) c.in-Some-Sub.field-0-2 c.args.bytes.now (c.base.ensures.value ∙ ap (λ (e : Extent). e.base) c.extent.ensures)
    (sub_at c.args.log.now.events c.args.q c.in-Some-Sub.field-0 c.in-Some-Sub.field-0-0 c.in-Some-Sub.op c.in-Some-Sub.field-0-2 c.in-Some-Sub.field-0-is c.in-Some-Sub.ensures) (c.goes_behind.ensures yes)
