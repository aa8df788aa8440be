use Rattle.std.proofs.Common.{arith, sym, ◌∙◌, subst}
use Rattle.std.specs.Mem.Slots.{slots_items, slots_counts}
use Rattle.fabric_core.specs.Kept.{IsSoundFabric}
use Rattle.hall_laws.specs.declared.token.Knowledge.{Knowledge}
use Rattle.hall_laws.specs.Standing.{token_of}
use Rattle.hall_core.specs.Opens.{Leaves, AllRan, Left}
use Rattle.hall_laws.specs.Rule.{HasConfig}
use Rattle.hall_core.proofs.Opened.{closes}
use Rattle.hall_core.proofs.closing.close.Goals as goal

pub rebuild-parts-requires-clause-there : goal.rebuild-parts-requires-clause-there
rebuild-parts-requires-clause-there c =
    let row = c.close_with-closed.result.words in
    let l : Left c.args.place.me.0 (slots_items c.close_with-closed.result.slots) = closes c.args.board.shared.key c.args.place.id c.args.place.me.0 (slots_items row) (slots_items c.close_with-closed.result.slots) c.requires.table.2 c.close_with-closed.ensures.values.2
    (λ k h. c.in_default.ensures k (omega (arith, (slots_counts c.close_with-closed.result.slots).0, c.close_with-closed.ensures.counts.1, c.slot_count-count.ensures, h))) in
    let config : HasConfig l.0 c.args.config.now = subst (HasConfig l.0) c.requires.table.3 l.1.config in
    (l.0, l.1.sound.lanes, config.requesters, config.credits, l.3)

pub of_parts-requires : goal.of_parts-requires
of_parts-requires c =
    let row = c.close_with-closed.result.words in
    let l : Left c.args.place.me.0 (slots_items c.close_with-closed.result.slots) = closes c.args.board.shared.key c.args.place.id c.args.place.me.0 (slots_items row) (slots_items c.close_with-closed.result.slots) c.requires.table.2 c.close_with-closed.ensures.values.2
    (λ k h. c.in_default.ensures k (omega (arith, (slots_counts c.close_with-closed.result.slots).0, c.close_with-closed.ensures.counts.1, c.slot_count-count.ensures, h))) in
    let config : HasConfig l.0 c.args.config.now = subst (HasConfig l.0) c.requires.table.3 l.1.config in
    subst IsSoundFabric (sym (c.rebuild-parts.ensures l.0 l.1.sound.lanes config.requesters config.credits l.3)) l.1.sound

pub returns-clause-closed : goal.returns-clause-closed
returns-clause-closed c =
    let w : Knowledge = (token_of c.args.place.me.0).knows in
    let row = c.close_with-closed.result.words in
    let l : Left c.args.place.me.0 (slots_items c.close_with-closed.result.slots) = closes c.args.board.shared.key c.args.place.id c.args.place.me.0 (slots_items row) (slots_items c.close_with-closed.result.slots) c.requires.table.2 c.close_with-closed.ensures.values.2
    (λ k h. c.in_default.ensures k (omega (arith, (slots_counts c.close_with-closed.result.slots).0, c.close_with-closed.ensures.counts.1, c.slot_count-count.ensures, h))) in
    let config : HasConfig l.0 c.args.config.now = subst (HasConfig l.0) c.requires.table.3 l.1.config in
    subst (Leaves w) (sym (c.of_parts.ensures ∙ c.rebuild-parts.ensures l.0 l.1.sound.lanes config.requesters config.credits l.3)) l.1

pub returns-clause-all : goal.returns-clause-all
returns-clause-all c =
    let row = c.close_with-closed.result.words in
    let l : Left c.args.place.me.0 (slots_items c.close_with-closed.result.slots) = closes c.args.board.shared.key c.args.place.id c.args.place.me.0 (slots_items row) (slots_items c.close_with-closed.result.slots) c.requires.table.2 c.close_with-closed.ensures.values.2
    (λ k h. c.in_default.ensures k (omega (arith, (slots_counts c.close_with-closed.result.slots).0, c.close_with-closed.ensures.counts.1, c.slot_count-count.ensures, h))) in
    let config : HasConfig l.0 c.args.config.now = subst (HasConfig l.0) c.requires.table.3 l.1.config in
    subst (AllRan c.args.place.me.0) (sym (c.of_parts.ensures ∙ c.rebuild-parts.ensures l.0 l.1.sound.lanes config.requesters config.credits l.3)) l.2
