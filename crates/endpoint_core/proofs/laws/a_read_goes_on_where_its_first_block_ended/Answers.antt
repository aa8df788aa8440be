use Rattle.endpoint_core.proofs.Counting.{ends_at_the_boundary, counts_fall}
use Rattle.endpoint_core.proofs.laws.a_read_goes_on_where_its_first_block_ended.Goals as goal

pub returns-clause-boundary : goal.returns-clause-boundary
returns-clause-boundary c = ends_at_the_boundary

pub returns-clause-counts : goal.returns-clause-counts
returns-clause-counts c = counts_fall
