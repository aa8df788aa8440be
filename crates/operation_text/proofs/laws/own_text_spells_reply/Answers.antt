use Rattle.operation_text.proofs.OpLemmas.{reply-read_back, reply-printed, reply-short}
use Rattle.operation_text.proofs.laws.own_text_spells_reply.Goals as goal

pub returns-clause-read_back : goal.returns-clause-read_back
returns-clause-read_back c = reply-read_back

pub returns-clause-printed : goal.returns-clause-printed
returns-clause-printed c = reply-printed

pub returns-clause-short : goal.returns-clause-short
returns-clause-short c = reply-short
