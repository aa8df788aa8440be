use Rattle.std.proofs.Common.{sym, subst}
use Rattle.search_others.specs.declared.others.Asked.{Asked}
use Rattle.search_others.specs.Spared.{Spares}
use Rattle.search_others.proofs.others.spares.Goals as goal

pub returns-in-Lost : goal.returns-in-Lost
returns-in-Lost c = λ so. subst (λ (k : Asked). Spares c.args.log.now c.args.bytes.now c.args.q k c.args.b) (sym c.in-Lost.is) (c.never_brings.ensures so)

pub returns-in-Last : goal.returns-in-Last
returns-in-Last c = λ so. subst (λ (k : Asked). Spares c.args.log.now c.args.bytes.now c.args.q k c.args.b) (sym c.in-Last.is) (c.yields.ensures.brings so, c.yields.ensures.order so)

pub returns-in-First : goal.returns-in-First
returns-in-First c = λ so. subst (λ (k : Asked). Spares c.args.log.now c.args.bytes.now c.args.q k c.args.b) (sym c.in-First.is) (c.lets_first.ensures so)

pub returns-in-Byte : goal.returns-in-Byte
returns-in-Byte c = λ so. subst (λ (k : Asked). Spares c.args.log.now c.args.bytes.now c.args.q k c.args.b) (sym c.in-Byte.is) (c.never_puts.ensures so)
