use Rattle.std.proofs.Common.{◌∙◌, sym}
use Rattle.search_engine.proofs.MemoryLemmas.{wants}
use Rattle.search_engine.proofs.answering.find.Goals as goal

pub returns-in-Err-clause-err : goal.returns-in-Err-clause-err
returns-in-Err-clause-err g c =
    wants c.args.text.now c.in-Err.misread.fault c.no_fault_is_out_of_memory.ensures.seen (sym c.is_memory.ensures ∙ c.if-is_memory.true) c.in-Err.ensures.err
