use Rattle.std.proofs.Common.{sym}
use Rattle.operation_text.proofs.WordLemmas.{ended_is}
use Rattle.operation_text.proofs.fields.is_ended.Goals as goal

pub returns : goal.returns
returns c = ended_is c.args.rest c.is_none.result (sym c.is_none.ensures)
