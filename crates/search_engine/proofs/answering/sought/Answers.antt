use Rattle.std.proofs.Common.{◌≡◌, ◌∙◌, [], ap, subst, sym, arith}
use Rattle.history_words.specs.TraceView.{TraceView}
use Rattle.log_runs.specs.Explainable.{SeenAlike}
use Rattle.trace_store.specs.Changes.{seen_by}
use Rattle.search_history.specs.Answers.{IsFound, IsNone, Stops}
use Rattle.search_history.specs.Looks.{IsStopped}
use Rattle.search_history.specs.declared.searching.Sought.{Sought}
use Rattle.search_history.specs.declared.searching.Sought.TheVariants as answers
use Rattle.log_pieces.specs.declared.Granularity.TheVariants.{Whole}
use Rattle.log_pieces.specs.InPieces.{in_pieces}
use Rattle.search_run.specs.declared.exploring.Bounds.{Bounds}
use Rattle.search_engine.specs.Bounded.{IsEnded, WasSearched, bounds_of}
use Rattle.search_engine.specs.Findings.{IsFindingOf}
use Rattle.search_engine.specs.declared.answering.Finding.{Finding}
use Rattle.search_engine.proofs.LookLemmas.{ended, looked}
use Rattle.search_engine.proofs.SizeLemmas.{alike_in_whole, seen_again, unexplained_in_whole}
use Rattle.search_engine.proofs.answering.sought.Goals as goal

pub returns-in-Found : goal.returns-in-Found
returns-in-Found g c =
    let store = c.search_watched.new.store in
    let found : IsFound store answers.Found = subst (λ (s : Sought). IsFound store s) c.in-Found.is c.in_ok-sought.ensures.found in
    let same : seen_by c.of-store.result ≡ c.args.seen = ap seen_by c.of-store.ensures ∙ seen_again c.args.seen [] in
    (alike_in_whole c.args.seen (seen_by store) (subst (λ (t : TraceView). SeenAlike t (seen_by store)) same c.search_watched.ensures.alike), found.0, found.1, omega (arith, c.entries-entries.ensures))

pub returns-in-Limit : goal.returns-in-Limit
returns-in-Limit g c =
    let same : seen_by c.of-store.result ≡ c.args.seen = ap seen_by c.of-store.ensures ∙ seen_again c.args.seen [] in
    let found = c.in_ok-sought.ensures in
    let stopped : IsStopped (seen_by c.of-store.result) = subst (Stops (seen_by c.of-store.result)) c.in-Limit.is found.stops in
    let by : IsEnded (bounds_of c.args.demand) c.in_ok-sought.choices c.in_ok-sought.work c.in-Limit.bound =
    subst (λ (b : Bounds). IsEnded b c.in_ok-sought.choices c.in_ok-sought.work c.in-Limit.bound) c.bounds-bounds.ensures
    (ended c.bounds-bounds.result c.in_ok-sought.choices c.in_ok-sought.work c.in_ok-sought.sought c.in-Limit.bound c.in-Limit.is found.limit found.less found.work found.spent) in
    let searched : WasSearched (in_pieces Whole c.args.seen) c.in_ok-sought.choices =
    looked _ (seen_by c.of-store.result) c.args.seen c.in_ok-sought.choices _ _ same found.saw stopped in
    subst (λ (f : Finding). IsFindingOf Whole (bounds_of c.args.demand) c.args.seen f) (sym c.given_up.ensures) (by, searched)

pub returns-in-None : goal.returns-in-None
returns-in-None g c =
    let same : seen_by c.of-store.result ≡ c.args.seen = ap seen_by c.of-store.ensures ∙ seen_again c.args.seen [] in
    let none : IsNone c.args.seen (answers.None c.in-None.prefix) = subst (λ (s : Sought). IsNone c.args.seen s) c.in-None.is (subst (λ (t : TraceView). IsNone t c.in_ok-sought.sought) same c.in_ok-sought.ensures.none) in
    unexplained_in_whole c.args.seen c.in-None.prefix none.1.within none.1.unexplained
