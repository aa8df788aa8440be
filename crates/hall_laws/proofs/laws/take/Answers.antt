use Rattle.std.proofs.Common.{rules, ℕ, ◌∷◌, Some, Option, List, refl, sym, ap, ◌∙◌, arith}
use Rattle.atomic_table.specs.Table.{rest}
use Rattle.hall_laws.specs.declared.part.PartValue.{PartValue}
use Rattle.hall_laws.specs.Rule.{parts, IsSoundTraced, Fits}
use Rattle.hall_laws.proofs.Moves.{take_allows}
use Rattle.hall_laws.proofs.laws.take.Goals as goal

pub compare_exchange-found-requires : goal.compare_exchange-found-requires
compare_exchange-found-requires c = (c.requires.table.0, c.requires.table.1.0, take_allows parts IsSoundTraced Fits _ _ c.args.slot _ _ c.requires.token.0 (omega arith) c.requires.table.1.1)

pub exchange-value-requires : goal.exchange-value-requires
exchange-value-requires c = let took = (c.compare_exchange-found.ensures.2 c.args.slot refl).0 c.if-found-ne0.false in let now = ap (λ m. m.1) took.1 in
    (search rules, (Some took.0, now ∙ ap (λ (l : List (ℕ × Option PartValue)). (c.args.slot, Some took.0) ∷ l) (sym (ap rest now))))

pub returns-then-found-ne0-clause-taken : goal.returns-then-found-ne0-clause-taken
returns-then-found-ne0-clause-taken c = let busy = (c.compare_exchange-found.ensures.2 c.args.slot refl).1 c.if-found-ne0.true in (c.if-found-ne0.true, busy.0, busy.1)

pub unwrap-requires : goal.unwrap-requires
unwrap-requires c = let took = (c.compare_exchange-found.ensures.2 c.args.slot refl).0 c.if-found-ne0.false in let now = ap (λ m. m.1) took.1 in search rules

pub returns-clause-taken : goal.returns-clause-taken
returns-clause-taken c = let took = (c.compare_exchange-found.ensures.2 c.args.slot refl).0 c.if-found-ne0.false in search rules
