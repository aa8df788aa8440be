-- What comes of a text, before it is written.
use Rattle.std.specs.Prelude.{ℕ, ◌≡◌, ◌<◌, ◌≤◌, ◌^◌, Bool, true, false, List, length, Result, Ok, Err}
use Rattle.history_words.specs.TraceView.{TraceView}
use Rattle.history_words.specs.Trace.{Explains}
use Rattle.history_words.specs.Clocks.{IsClocked}
use Rattle.record_text.specs.declared.fault.ReadFault.{ReadFault}
use Rattle.record_text.specs.declared.fault.ReadFaultKind.{ReadFaultKind}
use Rattle.record_text.specs.declared.fault.ReadFaultKind.TheVariants as faults
use Rattle.trace_store.specs.Changes.{seen_by}
use Rattle.log_runs.specs.Explainable.{SeenAlike, prefix as first}
use Rattle.log_pieces.specs.declared.Granularity.{Granularity}
use Rattle.log_pieces.specs.InPieces.{in_pieces, IsExplainableIn}
use Rattle.log_events.specs.Formed.{AreFormed}
use Rattle.search_run.specs.declared.exploring.Bounds.{Bounds}
use Rattle.search_engine.specs.Bounded.{IsEnded, WasSearched}
use Rattle.search_engine.specs.Flaws.{IsFirstFlaw}
use Rattle.search_engine.specs.declared.answering.Finding.{Finding}
use Rattle.search_engine.specs.declared.answering.Finding.TheVariants as findings
use Rattle.search_engine.specs.declared.answering.OutcomeText.{OutcomeText}
use Rattle.search_engine.specs.declared.answering.OutcomeText.TheVariants as texts

abbrev pub is_memory : ReadFaultKind → Bool
is_memory faults.Memory = true
is_memory _ = false

-- with pieces of that size, so many records have no history
pub record AreUnexplained (size : Granularity) (t : TraceView) (count : ℕ) : Type 0 where
  pub within : count ≤ length t.records
  pub unexplained : IsExplainableIn size (first count t) → ⊥

-- of a log that was searched
abbrev pub IsFindingOf : Granularity → Bounds → TraceView → Finding → Type 0
IsFindingOf size bounds t (findings.Found store) =
    SeenAlike (in_pieces size t) (seen_by store) × Explains store × IsClocked store × (length store.memory.entries < 2 ^ 64)
IsFindingOf size bounds t (findings.None seen prefix pieces) = AreUnexplained size t prefix
IsFindingOf size bounds t (findings.Limit seen ending far pieces) =
    IsEnded bounds ending.choices ending.work ending.bound × WasSearched (in_pieces size t) ending.choices
IsFindingOf size bounds t (findings.Flaw seen flaw) = ⊥
IsFindingOf size bounds t (findings.Fault f) = ⊥

-- of a log that was read: its first flaw, or what comes of a search, if its form is right
abbrev pub IsJudged : Granularity → Bounds → TraceView → Finding → Type 0
IsJudged size bounds t (findings.Flaw seen flaw) = IsFirstFlaw t.records flaw
IsJudged size bounds t finding = AreFormed t.records (length t.records) × IsFindingOf size bounds t finding

-- of what was read
abbrev pub IsFinding : Granularity → Bounds → Result TraceView ReadFault → Finding → Type 0
IsFinding size bounds (Ok t) finding = IsJudged size bounds t finding
IsFinding size bounds (Err f) (findings.Found store) = ⊥
IsFinding size bounds (Err f) (findings.None seen prefix pieces) = ⊥
IsFinding size bounds (Err f) (findings.Limit seen ending far pieces) = ⊥
IsFinding size bounds (Err f) (findings.Flaw seen flaw) = ⊥
IsFinding size bounds (Err f) (findings.Fault g) = f ≡ g.fault

-- of a log that has no history
abbrev pub IsNoneFinding : Finding → Type 0
IsNoneFinding (findings.None seen prefix pieces) = Unit {0}
IsNoneFinding _ = ⊥

-- what is written
abbrev pub text_of : OutcomeText → List ℕ
text_of (texts.Line line) = line.bytes
text_of (texts.Trace text) = text.items
