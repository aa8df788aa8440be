use Rattle.std.proofs.Common.{◌≡◌, ◌∙◌, ◌++◌, ◌∷◌, [], List, get_or, take, sym, ap, append_assoc}
use Rattle.seq_memory.specs.Entries.{Entry}
use Rattle.history_words.specs.Records.{Record}
use Rattle.history_words.specs.TraceView.{TraceView}
use Rattle.log_runs.specs.Histories.{history_of}
use Rattle.log_runs.specs.declared.Step.TheVariants as steps
use Rattle.search_history.proofs.Runs.{history_more, other_default}
use Rattle.search_history.proofs.moments.act_all.Goals as goal

pub loop-at-preserved : goal.loop-at-preserved
loop-at-preserved c =
    let rs = c.args.store.now.records in
    let first = c.args.store.now.memory.entries in
    let xs = c.args.steps.now in
    let i = c.loop-at.at in
    let x = get_or xs i steps.Pass in
    let same : c.loop-at.store.records ≡ rs = ap (λ (v : TraceView). v.records) c.loop-at.invariant.0 in (
      c.act.ensures.seen ∙ c.loop-at.invariant.0,
      c.in_ok-act.ensures.entries ∙ ap (λ (ys : List Record). c.loop-at.store.memory.entries ++ history_of ys (x ∷ [])) same
          ∙ ap (λ (h : List Entry). h ++ history_of rs (x ∷ [])) c.loop-at.invariant.1 ∙ append_assoc first (history_of rs (take i xs)) (history_of rs (x ∷ []))
          ∙ ap (λ (h : List Entry). first ++ h) (sym (history_more rs xs i x c.loop-at-test.true (other_default xs i steps.Pass x c.loop-at-test.true))),
    )
