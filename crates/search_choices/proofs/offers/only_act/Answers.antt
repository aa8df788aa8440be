use Rattle.std.proofs.Common.{◌≡◌, ◌++◌, ◌∷◌, [], false, take, get_or, sym, subst}
use Rattle.std.specs.Prelude.{is_some}
use Rattle.search_choices.proofs.Covering.{OnlySo, only_found, only_passed, only_next, none_of}
use Rattle.search_choices.proofs.offers.only_act.Goals.{then-is_open+else-is_some, else-is_open}
use Rattle.search_choices.proofs.offers.only_act.Goals as goal

pub loop-b-preserved : goal.loop-b-preserved
loop-b-preserved c =
    let log = c.args.scene.log.now in
    let s = c.args.scene.place.now.state in
    let due = c.args.scene.others.now.due in
    let pending = c.args.scene.place.now.pending in
    let items = c.pending-b-items.result.now in
    let i = c.loop-b.b-index in
    let b = get_or items i 0 in
    only_next log s due c.if-is_open.only pending items i c.pending-b-items.ensures c.loop-b-test.true
    (elim c.if-is_open.branch as (λ z. OnlySo log s due c.if-is_open.only (take i pending ++ b ∷ [])) [
      | then-is_open+else-is_some w ↦
          let answer = w.is_some.ensures in
          let test = w.if-is_some.false in
          let e : is_some c.loop-b.only ≡ false = cc in
          subst (λ o. OnlySo log s due o (take i pending ++ b ∷ [])) (sym w.only-is)
          (only_found log s due c.loop-b.only (take i pending) b (none_of c.loop-b.only e) (c.is_open.ensures.yes w.if-is_open.true) c.loop-b.invariant)
      | else-is_open w ↦
          subst (λ o. OnlySo log s due o (take i pending ++ b ∷ [])) (sym w.only-is)
          (only_passed log s due c.loop-b.only (take i pending) b (c.is_open.ensures.no w.if-is_open.false) c.loop-b.invariant)
    ])
