-- What `check` answers to the text of a trace.
use Rattle.std.specs.Prelude.{ℕ, List, [], ◌∷◌, ◌++◌, Bool, true, false, codes, Option, Some, None, Result, Ok, Err}
use Rattle.history_words.specs.declared.flaws.FlawKind.{FlawKind}
use Rattle.flaw_places.specs.Places.{flaw_line}
use Rattle.history_words.specs.Claim.{Claim}
use Rattle.history_words.specs.Flaws.{first_flaw, first_flaw_clocked}
use Rattle.record_text.specs.declared.fault.ReadFault.{ReadFault}
use Rattle.record_text.specs.Names.{fault_line}
use Rattle.trace_text.specs.TraceReaderView.{TraceReaderView, nothing_read, after_line, after_long_line, at_end}
use Rattle.line_loop.specs.Run.{Answer, Responses, Run, run_of}

-- a line is read, and nothing written
abbrev pub is_read : TraceReaderView → Answer TraceReaderView
is_read s = record { state = s; text = []; is_fault = false }

-- the text has ended: one line is written, and nothing is left of what was read
abbrev pub concludes : List ℕ → Bool → Answer TraceReaderView
concludes line is_fault = record { state = nothing_read; text = line ++ 10 ∷ []; is_fault = is_fault }

abbrev pub judged : Option (FlawKind × ℕ) → Answer TraceReaderView
judged None = concludes (codes "ok") false
judged (Some f) = concludes (flaw_line f.0 f.1) true

abbrev pub checked : Result Claim ReadFault → Answer TraceReaderView
checked (Err f) = concludes (fault_line f) true
checked (Ok x) = judged (first_flaw x)

abbrev pub check_responses : Responses TraceReaderView
check_responses = record { on_line = λ s line. is_read (after_line s line); on_long_line = λ s. is_read (after_long_line s); on_end = λ s. checked (at_end s) }

-- the whole run of `check` on an input
abbrev pub out_check : List ℕ → Run TraceReaderView
out_check input = run_of check_responses nothing_read input

-- the same with `--clocked`, which asks for the n's, too

abbrev pub clocked : Result Claim ReadFault → Answer TraceReaderView
clocked (Err f) = concludes (fault_line f) true
clocked (Ok x) = judged (first_flaw_clocked x)

abbrev pub clocked_responses : Responses TraceReaderView
clocked_responses = record { on_line = λ s line. is_read (after_line s line); on_long_line = λ s. is_read (after_long_line s); on_end = λ s. clocked (at_end s) }

abbrev pub out_check_clocked : List ℕ → Run TraceReaderView
out_check_clocked input = run_of clocked_responses nothing_read input

-- with that option, or without it
abbrev pub out_check_with : Bool → List ℕ → Run TraceReaderView
out_check_with true input = out_check_clocked input
out_check_with false input = out_check input

abbrev pub checked_with : Bool → Result Claim ReadFault → Answer TraceReaderView
checked_with true r = clocked r
checked_with false r = checked r

-- a flaw that is told only if the n's are asked for
abbrev pub if_clocked : Bool → Option (FlawKind × ℕ) → Option (FlawKind × ℕ)
if_clocked true flaw = flaw
if_clocked false flaw = None

abbrev pub flaw_with : Bool → Claim → Option (FlawKind × ℕ)
flaw_with true x = first_flaw_clocked x
flaw_with false x = first_flaw x
