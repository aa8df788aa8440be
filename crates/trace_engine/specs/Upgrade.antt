-- What `upgrade` answers to the text of a trace.
use Rattle.std.specs.Prelude.{ℕ, List, true, false, Result, Ok, Err}
use Rattle.history_words.specs.Claim.{Claim}
use Rattle.record_text.specs.declared.fault.ReadFault.{ReadFault}
use Rattle.trace_text.specs.TraceReaderView.{TraceReaderView, nothing_read, after_line, after_long_line, at_end}
use Rattle.trace_text.specs.Texts.{trace_text}
use Rattle.line_loop.specs.Run.{Answer, Responses, Run, run_of}
use Rattle.record_text.specs.Names.{fault_line}
use Rattle.trace_engine.specs.Check.{is_read, concludes}

-- the text in the second version, whether or not the history explains the trace
abbrev pub upgraded : Result Claim ReadFault → Answer TraceReaderView
upgraded (Err f) = concludes (fault_line f) true
upgraded (Ok x) = record { state = nothing_read; text = trace_text x; is_fault = false }

abbrev pub upgrade_responses : Responses TraceReaderView
upgrade_responses = record { on_line = λ s line. is_read (after_line s line); on_long_line = λ s. is_read (after_long_line s); on_end = λ s. upgraded (at_end s) }

-- the whole run of `upgrade` on an input
abbrev pub out_upgrade : List ℕ → Run TraceReaderView
out_upgrade input = run_of upgrade_responses nothing_read input
