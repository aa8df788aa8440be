use Rattle.std.proofs.Common.{◌≡◌, ◌∙◌, ℕ, List, ◌∷◌, Some, false, length, sym, ap, subst}
use Rattle.std.specs.Prelude.{slice_get}
use Rattle.seq_memory.specs.Limits.{Extent}
use Rattle.log_runs.specs.declared.Step.TheVariants as steps
use Rattle.log_runs.specs.LogView.{LogView}
use Rattle.log_runs.specs.Runs.{State, IsForced}
use Rattle.search_rules.specs.Rules.{Names, IsJunkAt, LeavesNothing}
use Rattle.search_forced.proofs.GroupLemmas.{over}
use Rattle.search_forced.proofs.junk.is_over_junk.Goals as goal

abbrev Old : LogView → ℕ → List ℕ → State → Type 0
Old log request others s =
    (w : ℕ) → Names log request w → (b : ℕ) → (request ≡ b → ⊥) → ((i : ℕ) → slice_get others i ≡ Some b → ⊥) → slice_get s.acted b ≡ Some false → IsJunkAt log s.bytes b w

abbrev New : LogView → ℕ → State → List ℕ → Type 0
New log request last others = (i member : ℕ) → slice_get (request ∷ others) i ≡ Some member → LeavesNothing log last request member

pub returns-clause-forced : goal.returns-clause-forced
returns-clause-forced c = λ so.
    let log = c.args.known.log.now in
    let request = c.args.request in
    let s = c.args.place.now.state in
    let group = c.in_ok-done.ensures in
    let here : c.take_back.new.place.state ≡ s = c.in_ok-take_back.ensures.state s group.back in
    let old : Old log request c.in_ok-done.field-0.others.items s =
    subst (λ (xs : List ℕ). Old log request xs s) c.deref-2.ensures.value (subst (Old log request c.deref-2.result.now) here (c.all_overlook.ensures so)) in
    let new : New log request c.gather.new.place.state c.in_ok-done.field-0.others.items = subst (New log request c.gather.new.place.state) c.deref.ensures.value (c.all_leave_nothing-spent.ensures c.if-not-spent.false) in
    let size : length s.bytes ≡ log.extent.size =
    ap (λ (u : State). length u.bytes) (sym here) ∙ ap length (sym c.bytes.ensures) ∙ c.if-bytes-size.false ∙ c.size.ensures.value ∙ ap (λ (e : Extent). e.size) c.extent.ensures in
    subst (λ (u : State). IsForced log u (steps.Act request)) (sym here)
    (c.what_is_over_junk_acts_at_once.ensures log s request c.in_ok-done.field-0.others.items (over log s request c.in_ok-done.field-0 c.gather.new.place group size old new))
