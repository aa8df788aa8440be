use Rattle.std.proofs.Common.{Option, length, subst}
use Rattle.std.specs.Prelude.{IfNone}
use Rattle.std.proofs.lemmas.Result.{IfOk-weaker}
use Rattle.history_words.specs.declared.flaws.Flaw.{Flaw}
use Rattle.log_events.specs.Formed.{AreFormed}
use Rattle.search_engine.specs.Bounded.{bounds_of}
use Rattle.search_engine.proofs.FlawLemmas.{judged_of}
use Rattle.search_engine.proofs.flaws.judged.Goals as goal

pub returns-in-None : goal.returns-in-None
returns-in-None g c =
    let rs = c.args.seen.records in
    let formed : AreFormed rs (length rs) = subst (λ (o : Option Flaw). IfNone o (AreFormed rs (length rs))) c.in-None.is c.in_ok-flaw.ensures.formed in
    IfOk-weaker c.sought_in.result _ _ (λ f h. judged_of c.args.demand.options.granularity (bounds_of c.args.demand) c.args.seen f formed h) c.sought_in.ensures
