use Rattle.std.proofs.Common.{◌≡◌, ◌∙◌, ℕ, List, false, map, take, sym, ap, subst, refl, replicate}
use Rattle.std.specs.List.{list_any}
use Rattle.std.proofs.lemmas.Result.{err_from_is_err_and, on_err_weaker}
use Rattle.seq_memory.specs.Limits.{Extent}
use Rattle.history_words.specs.Records.{Record}
use Rattle.history_words.specs.TraceView.{TraceView, observed}
use Rattle.log_events.specs.Joined.{ArePartners}
use Rattle.log_runs.specs.Histories.{completed, history_of}
use Rattle.log_runs.specs.Tasks.{IsWellFormed}
use Rattle.log_events.specs.Completing.{lacks_reply}
use Rattle.log_events.proofs.Filling.{nothing_lacked, filled_none, joined_if, seen_with}
use Rattle.log_events.proofs.completing.complete.Goals as goal
use Rattle.trace_store.specs.Changes.{seen_by}

pub returns-then-not-lack_replies-clause-ok : goal.returns-then-not-lack_replies-clause-ok
returns-then-not-lack_replies-clause-ok c =
    let s = c.args.store.now in
    let lent = c.records.ensures ∙ ap (λ (v : TraceView). v.records) c.seen.ensures in
    let none : list_any lacks_reply s.records ≡ false =
    ap (λ (ys : List Record). list_any lacks_reply ys) (sym lent) ∙ sym c.lack_replies.ensures ∙ c.if-not-lack_replies.true in
    let h = history_of s.records c.args.steps.now in
    seen_with s s h refl (nothing_lacked (observed (seen_by s)) (replicate s.memory.size 0) h s.records none)

pub returns-in_err-form-clause-err : goal.returns-in_err-form-clause-err
returns-in_err-form-clause-err c =
    let s = c.args.store.now in
    let p = err_from_is_err_and c.from_residual.result c.from_residual.ensures.1 in
    rw p.1 (0, seen_with s s (history_of s.records (take 0 c.args.steps.now)) refl (filled_none (observed (seen_by s)) (replicate s.memory.size 0) c.args.steps.now s.records))

pub returns-in_err-bytes-clause-err : goal.returns-in_err-bytes-clause-err
returns-in_err-bytes-clause-err c =
    let s = c.args.store.now in
    let p = err_from_is_err_and c.from_residual-in_err-bytes.result c.from_residual-in_err-bytes.ensures.1 in
    rw p.1 (0, seen_with s s (history_of s.records (take 0 c.args.steps.now)) refl (filled_none (observed (seen_by s)) (replicate s.memory.size 0) c.args.steps.now s.records))

pub complete_all-requires : goal.complete_all-requires
complete_all-requires c =
    let ps = c.in_ok-form.form.partners in
    let rs = c.records-2.result in
    let lent = c.records-2.ensures ∙ ap (λ (v : TraceView). v.records) c.seen-2.ensures in
    subst (ArePartners ps) lent (joined_if c.in_ok-form.form.flaw rs (ArePartners ps rs) (subst IsWellFormed (sym lent) c.requires) c.in_ok-form.ensures.wrong c.in_ok-form.ensures.joined)

pub returns-clause-err : goal.returns-clause-err
returns-clause-err c =
    let s = c.args.store.now in
    let m = c.deref_mut.result.now in
    let extent = c.extent-extent.ensures ∙ ap observed c.seen-3.ensures in
    let zeros = c.deref_mut.ensures.value ∙ c.in_ok-bytes.ensures ∙ ap (λ (n : ℕ). replicate n 0) (c.size.ensures.value ∙ ap (λ (x : Extent). x.size) extent) in
    on_err_weaker c.complete_all.result (λ some.
    let h = history_of s.records (take some.0 c.args.steps.now) in (
      some.0,
      seen_with s c.complete_all.new.store h c.complete_all.ensures.memory
          (some.1 ∙ ap (λ (x : Extent). map (completed x m h) s.records) extent ∙ ap (λ (v : List ℕ). map (completed (observed (seen_by s)) v h) s.records) zeros),
    )) c.complete_all.ensures.err
