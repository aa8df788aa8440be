-- What `upgrade` answers while it keeps the text that it is to write in place of records and entries.
use Rattle.std.specs.Prelude.{ℕ, List, [], ◌∷◌, ◌++◌, true, false, Result, Ok, Err}
use Rattle.record_text.specs.declared.fault.ReadFault.{ReadFault}
use Rattle.trace_text.specs.TraceRewriterView.{TraceRewriterView, nothing_rewritten, after_line, after_long_line, text_at_end}
use Rattle.line_loop.specs.Run.{Answer, Responses}
use Rattle.record_text.specs.Names.{fault_line}

abbrev pub goes_on : TraceRewriterView → Answer TraceRewriterView
goes_on w = record { state = w; text = []; is_fault = false }

abbrev pub told : Result (List ℕ) ReadFault → Answer TraceRewriterView
told (Err f) = record { state = nothing_rewritten; text = fault_line f ++ 10 ∷ []; is_fault = true }
told (Ok text) = record { state = nothing_rewritten; text = text; is_fault = false }

abbrev pub rewriter_responses : Responses TraceRewriterView
rewriter_responses = record { on_line = λ w line. goes_on (after_line w line); on_long_line = λ w. goes_on (after_long_line w); on_end = λ w. told (text_at_end w) }
