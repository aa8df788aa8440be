use Rattle.operation_text.proofs.OpLemmas.{op-read_back, op-printed, op-short}
use Rattle.operation_text.proofs.laws.own_text_spells_operation.Goals as goal

pub returns-clause-read_back : goal.returns-clause-read_back
returns-clause-read_back c = op-read_back

pub returns-clause-printed : goal.returns-clause-printed
returns-clause-printed c = op-printed

pub returns-clause-short : goal.returns-clause-short
returns-clause-short c = op-short
