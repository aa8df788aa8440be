use Rattle.log_rows.proofs.Swapped.{swapped_explainable}
use Rattle.log_rows.proofs.swaps.neighbours_may_be_swapped.Goals as goal

pub returns : goal.returns
returns c = λ t before after r s may x. swapped_explainable t before after r s may x
