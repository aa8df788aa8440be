use Rattle.lane_core.proofs.lane.Lane.quiet.Goals as goal

pub returns : goal.returns
returns c =
    let still = c.quiet_is_nothing_left.ensures c.self.inside.ends c.self.invariant in
    record { quiet = rw (← c.self.view_is) (λ t. still.1 (c.quiet.ensures.0 t), λ h. c.quiet.ensures.1 (still.0 h)) }
