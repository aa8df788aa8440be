use Rattle.fabric_settle.proofs.Few.{few}
use Rattle.fabric_settle.proofs.hops_laws.few_hops_are_left.Goals as goal

pub returns : goal.returns
returns c = few c.the_credits_of_a_lane_are_accounted.ensures c.counters_stand_for_whole_numbers.ensures.room
