-- A traced device that was asked lines, and what it prints to the line `trace` then.
use Rattle.std.specs.Prelude.{ℕ, List, true, codes}
use Rattle.config_core.specs.SetupView.{SetupView}
use Rattle.endpoint_engine.specs.Lines.{DeviceLines, answer_line, out_endpoint}

abbrev pub asked : SetupView → List ℕ → DeviceLines
asked s input = (out_endpoint s true input).state

abbrev pub trace_after : SetupView → List ℕ → List ℕ
trace_after s input = (answer_line (asked s input) (codes "trace")).text
