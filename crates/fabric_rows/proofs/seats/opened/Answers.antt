use Rattle.std.proofs.Common.{◌≡◌, ℕ, ◌+◌, sym, ap, ◌∙◌}
use Rattle.fabric_rows.proofs.SeatLists.{new_fit}
use Rattle.fabric_rows.proofs.seats.opened.Goals as goal

pub returns-in-Ok-new-clause-seats : goal.returns-in-Ok-new-clause-seats
returns-in-Ok-new-clause-seats c =
    let t = c.in-Ok-new.made in
    (new_fit t.0 0 t.0.config.requesters t.1.items c.in-Ok-new.ensures.requesters, new_fit t.0 t.0.config.requesters c.args.work t.2.items c.in-Ok-new.ensures.work)

pub returns-in-Ok-new-clause-config : goal.returns-in-Ok-new-clause-config
returns-in-Ok-new-clause-config c =
    let many = c.in-Ok-new.ensures.config.requesters in
    sym many ∙ c.in-Ok.ensures.ok.requesters.number

pub returns-in-Ok-new-clause-count : goal.returns-in-Ok-new-clause-count
returns-in-Ok-new-clause-count c =
    let t = c.in-Ok-new.made in
    let many : t.0.config.requesters ≡ c.args.config.requesters = sym c.in-Ok-new.ensures.config.requesters ∙ c.in-Ok.ensures.ok.requesters.number in
    c.in-Ok-new.ensures.seats ∙ ap (λ (n : ℕ). n + c.args.work) many
