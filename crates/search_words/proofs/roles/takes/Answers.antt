use Rattle.std.proofs.Common.{◌≡◌, ◌∙◌, Some, sym, subst, ap}
use Rattle.std.specs.Prelude.{slice_get}
use Rattle.log_runs.specs.EventView as events
use Rattle.log_runs.specs.EventView.{event_of}
use Rattle.log_runs.specs.Runs.{bytes_after}
use Rattle.search_effects.specs.Effects.{told_of}
use Rattle.search_rules.specs.Rules.{Suits}
use Rattle.search_words.proofs.RoleLemmas.{leaves_at}
use Rattle.search_words.proofs.roles.takes.Goals as goal

pub returns-in-Some-Sub-clause-finds : goal.returns-in-Some-Sub-clause-finds
returns-in-Some-Sub-clause-finds c = λ yes m long there.
    let x = c.args.log.now.extent in
    let at : slice_get c.args.log.now.events c.args.b ≡ Some (events.Sub c.in-Some-Sub.field-0-0 c.in-Some-Sub.op (told_of c.as_ref.result)) =
    sym c.in-Some-Sub.ensures ∙ ap (λ e. Some (event_of e)) c.in-Some-Sub.field-0-is ∙ ap (λ t. Some (events.Sub c.in-Some-Sub.field-0-0 c.in-Some-Sub.op t)) (sym c.as_ref.ensures.value) in
    subst (Suits x m) (sym c.requires.1) (c.takes_by.ensures.finds yes m long (subst (Suits x m) at there))

pub returns-in-Some-Sub-clause-leaves : goal.returns-in-Some-Sub-clause-leaves
returns-in-Some-Sub-clause-leaves c = λ yes m long.
    let x = c.args.log.now.extent in
    let at : slice_get c.args.log.now.events c.args.b ≡ Some (events.Sub c.in-Some-Sub.field-0-0 c.in-Some-Sub.op (told_of c.as_ref.result)) =
    sym c.in-Some-Sub.ensures ∙ ap (λ e. Some (event_of e)) c.in-Some-Sub.field-0-is ∙ ap (λ t. Some (events.Sub c.in-Some-Sub.field-0-0 c.in-Some-Sub.op t)) (sym c.as_ref.ensures.value) in
    leaves_at x m (slice_get c.args.log.now.events c.args.b) (slice_get c.args.log.now.events c.args.found.request) c.in-Some-Sub.field-0-0 c.in-Some-Sub.op (told_of c.as_ref.result) at
    (λ agrees still. c.takes_by.ensures.leaves yes m long agrees (subst (Suits x (bytes_after x m c.in-Some-Sub.op)) c.requires.1 still))
