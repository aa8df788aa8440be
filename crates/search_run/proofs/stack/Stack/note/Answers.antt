use Rattle.std.proofs.Common.{◌≡◌, ◌-◌, ◌+◌, ◌≤◌, ◌∷◌, [], length, drop, sym, ap, subst, arith, length-append}
use Rattle.std.specs.Prelude.{set}
use Rattle.search_run.specs.StackView.{StackView}
use Rattle.search_run.specs.Marks.{frames_in}
use Rattle.search_run.specs.Stacked.{Notes}
use Rattle.search_run.proofs.StackLemmas.{noted_last, raises, some_mark, within}
use Rattle.search_run.proofs.stack.Stack.note.Goals as goal

pub raised-requires : goal.raised-requires
raised-requires c =
    let s = c.self.inside in
    let some = some_mark s.frames.items s.trail s.notes.items (subst (λ (v : StackView). v.frames ≡ [] → ⊥) (sym c.self.view_is) c.requires) in
    let size : c.len-last.result - 1 + 1 ≡ length s.frames.items = omega (arith, c.len-last.ensures, s.frames.ok.0, some) in
    let few = within s.frames.items (c.len-last.result - 1) c.index-mark.result.now s.closed s.trail s.notes.items c.self.invariant size c.index-mark.ensures in
    let more = ap length c.in_ok-push.ensures.items in
    omega (arith, few, more, length-append s.notes.items (c.args.step ∷ []), c.len-many.ensures, c.push.new.self.ok.0)

pub invariant_of-self-2 : goal.invariant_of-self-2
invariant_of-self-2 c =
    let s = c.self.inside in
    let some = some_mark s.frames.items s.trail s.notes.items (subst (λ (v : StackView). v.frames ≡ [] → ⊥) (sym c.self.view_is) c.requires) in
    let size : c.len-last.result - 1 + 1 ≡ length s.frames.items = omega (arith, c.len-last.ensures, s.frames.ok.0, some) in
    (noted_last s.frames.items (set s.frames.items (c.len-last.result - 1) c.raised.result) s.closed s.trail s.notes.items c.push.new.self.items c.args.step c.self.invariant
    (raises s.frames.items (c.len-last.result - 1) c.index-mark.result.now c.raised.result size c.index-mark.ensures c.raised.ensures) c.in_ok-push.ensures.items).0

pub returns : goal.returns
returns c =
    let s = c.self.inside in
    let some = some_mark s.frames.items s.trail s.notes.items (subst (λ (v : StackView). v.frames ≡ [] → ⊥) (sym c.self.view_is) c.requires) in
    let size : c.len-last.result - 1 + 1 ≡ length s.frames.items = omega (arith, c.len-last.ensures, s.frames.ok.0, some) in
    let ks = set s.frames.items (c.len-last.result - 1) c.raised.result in
    let t : StackView = record { frames = frames_in ks s.trail c.push.new.self.items; done = drop s.closed s.trail } in
    subst (λ (v : StackView). Notes v t c.args.step) c.self.view_is
    (noted_last s.frames.items ks s.closed s.trail s.notes.items c.push.new.self.items c.args.step c.self.invariant
    (raises s.frames.items (c.len-last.result - 1) c.index-mark.result.now c.raised.result size c.index-mark.ensures c.raised.ensures) c.in_ok-push.ensures.items).1
