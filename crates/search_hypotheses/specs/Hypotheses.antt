-- What a hypothesis promises.
use Rattle.std.specs.Prelude.{ℕ, ◌≡◌, true}
use Rattle.history_words.specs.TraceView.{TraceView}
use Rattle.log_runs.specs.Explainable.{IsExplainable, prefix}
use Rattle.log_faults.specs.WithFault.{with_fault}
use Rattle.log_faults.specs.Free.{IsNew}
use Rattle.search_hypotheses.specs.declared.hypothesis.Hypothesis.{Hypothesis}

-- with the fault a history explains the first n records, or all; a request that is some requester's own is of one of which the
-- log has no record
pub record IsHypothesis (t : TraceView) (n : ℕ) (h : Hypothesis) : Type 0 where
  pub explained : IsExplainable (with_fault h.fault (prefix n t))
  pub whole : h.is_whole ≡ true → IsExplainable (with_fault h.fault t)
  pub own : IsNew h.fault.kind t.records
