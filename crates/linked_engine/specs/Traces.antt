-- A traced device behind its end of a link that was asked lines, and what it prints to the line `trace` then.
use Rattle.std.specs.Prelude.{ℕ, Bool, true, List, codes}
use Rattle.flow_control.specs.declared.limits.LaneCredits.{LaneCredits}
use Rattle.config_core.specs.SetupView.{SetupView}
use Rattle.linked_engine.specs.Lines.{LinkLines, answer_line, out_linked}

abbrev pub asked : SetupView → LaneCredits → Bool → List ℕ → LinkLines
asked s ours has_crc input = (out_linked s ours has_crc true input).state

abbrev pub trace_after : SetupView → LaneCredits → Bool → List ℕ → List ℕ
trace_after s ours has_crc input = (answer_line (asked s ours has_crc input) (codes "trace")).text
