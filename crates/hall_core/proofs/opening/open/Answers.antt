use Rattle.std.proofs.Common.{rules, ◌≡◌, ◌+◌, ◌*◌, ℕ, List, [], length, sym, ap, ◌∙◌, subst, replicate}
use Rattle.atomic_table.specs.Table.{opening}
use Rattle.fabric_steps.specs.Fabric.{Fabric, whole_of}
use Rattle.fabric_steps.specs.Trace.{Belongs}
use Rattle.fabric_core.specs.Kept.{IsSoundFabric}
use Rattle.hall_laws.specs.Standing.{word_of}
use Rattle.hall_laws.specs.Rule.{Kept, HasConfig, newcomers}
use Rattle.hall_laws.specs.declared.token.Start.{Start}
use Rattle.hall_core.proofs.Opened.{opens, unused_is_new}
use Rattle.hall_core.proofs.opening.open.Goals as goal

pub new-requires : goal.new-requires
new-requires c =
    let f : Fabric = c.args.fabric in
    let seats : ℕ = c.from.result + c.args.work in
    let key : Start = record { config = c.config_of-config.result; seats = seats; opened = c.of-opened.result } in
    let slots = c.in_ok-slots.slots.items in
    let same = c.into_parts-parts.ensures.parts in
    let sound : IsSoundFabric f = subst IsSoundFabric same c.into_parts-parts.ensures.sound in
    let config : HasConfig f key.config = subst (λ (g : Fabric). HasConfig g key.config) same c.config_of-config.ensures in
    let belongs : Belongs (whole_of f) [] = c.the_trace_belongs.ensures.new (whole_of f) (unused_is_new (record { acted = c.quiet_is_all_acted.ensures.acted; answered = c.quiet_is_all_acted.ensures.answered }) f sound c.requires.0) in
    let len : c.len.result ≡ length slots = search rules in
    let F : List ℕ → Type 0 = λ ws. Kept key (opening ws slots (newcomers key.config key.opened.value seats 0 seats)) in
    subst F (sym (c.as_slice.ensures.value ∙ c.in_ok-words.ensures)) (subst (λ (g : Fabric). Kept key (opening (replicate (8 * c.len.result) 0) slots (newcomers key.config g seats 0 seats))) (sym c.of-opened.ensures) (opens f (8 * c.len.result) seats slots key sound belongs config (search rules) (ap word_of len)))
