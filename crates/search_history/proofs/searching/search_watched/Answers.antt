use Rattle.std.proofs.Common.{refl, subst}
use Rattle.history_words.specs.TraceView.{TraceView}
use Rattle.search_history.specs.Looks.{SawOf}
use Rattle.search_history.specs.Prefixes.{IsUnexplained}
use Rattle.search_history.proofs.Runs.{seen_same}
use Rattle.search_history.proofs.Verdicts.{none_answered}
use Rattle.search_history.proofs.searching.search_watched.Goals as goal
use Rattle.trace_store.specs.Changes.{seen_by}

pub returns-clause-none : goal.returns-clause-none
returns-clause-none g c =
    none_answered c.prefix_is_explainable.ensures (seen_by c.args.store.now) c.in_ok-verdict.verdict c.in_ok-sought.sought c.in_ok-sought.ensures.answered
    (λ prefix is. subst (λ (t : TraceView). IsUnexplained t prefix) c.seen.ensures (c.in_ok-verdict.ensures.none prefix is))

pub returns-in_err-verdict-clause-alike : goal.returns-in_err-verdict-clause-alike
returns-in_err-verdict-clause-alike g c = seen_same (seen_by c.args.store.now) (seen_by c.args.store.now) refl

pub returns-clause-saw : goal.returns-clause-saw
returns-clause-saw g c = subst (λ (t : TraceView). SawOf g.W.Watch.sees t c.in_ok-verdict.states c.args.watch.now c.searched.new.watch) c.seen.ensures c.in_ok-verdict.ensures.saw
