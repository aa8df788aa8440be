use Rattle.log_cells.proofs.PartRuns.{part_run}
use Rattle.log_cells.proofs.laws.a_part_has_a_run.Goals as goal

pub returns : goal.returns
returns c = λ log part low high names p l.
    part_run (record { others = c.only_the_place_changes.ensures.others; size = c.only_the_place_changes.ensures.size; place = c.only_the_place_changes.ensures.place; refused = c.refused_and_read_change_nothing.ensures.refused }) log part low high names p l
