use Rattle.log_pieces.proofs.EndLemmas.{of_prefixes}
use Rattle.log_pieces.proofs.counting.ends_of.Goals as goal

pub returns-in_ok-ends-in-Some-clause-each : goal.returns-in_ok-ends-in-Some-clause-each
returns-in_ok-ends-in-Some-clause-each c =
    of_prefixes c.args.granularity c.in-Some.bytes c.args.log.now c.extent.result c.records.result c.in_ok-ends-in-Some.field-0.items c.in-Some.ensures.pieces
    c.extent.ensures c.records.ensures c.in_ok-ends-in-Some.ensures.each
