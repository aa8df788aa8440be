use Rattle.std.proofs.Common.{rules, ◌<◌, List, length, sym, ap, subst}
use Rattle.hall_laws.specs.declared.token.Token.{Token}
use Rattle.hall_laws.specs.Rule.{parts, IsSoundTraced, Fits, Releases}
use Rattle.hall_laws.proofs.Moves.{release_allows}
use Rattle.hall_laws.proofs.laws.release.Goals as goal

pub store-requires : goal.store-requires
store-requires g c = let now = c.exchange.ensures.3 in let view = ap (λ m. m.0) now in
    let some_token : List Token → Type 0 = λ ts. 0 < length ts in
    let rule : List Token → Type 0 = λ ts. Releases ts c.args.slot c.args.value g.C.After.after in
    (search rules, c.requires.table.1.0, release_allows parts IsSoundTraced Fits _ _ c.args.slot _ _ _ _ (subst some_token (sym view) c.requires.token.0) (ap (λ m. m.1) now) c.requires.table.1.1 (subst rule (sym view) c.requires.rule))
