-- What is written of a text line by line, and what is read of it.
use Rattle.std.specs.Prelude.{ℕ, ◌≡◌, List, fold, Result, Ok, Err}
use Rattle.history_words.specs.Claim.{Claim}
use Rattle.record_text.specs.declared.fault.ReadFault.{ReadFault}
use Rattle.record_text.specs.RecordReaderView as reads
use Rattle.trace_text.specs.TraceReaderView.{nothing_read, take_line, at_end}
use Rattle.trace_text.specs.Texts.{trace_text}
use Rattle.trace_text.specs.TraceRewriterView.{TraceRewriterView, rewrite_grammar, nothing_rewritten, text_at_end}

abbrev pub rewrite_line : TraceRewriterView → List ℕ → TraceRewriterView
rewrite_line w line = reads.take_line rewrite_grammar w line

-- the text of a trace that was read, or the first fault
abbrev pub text_of : Result Claim ReadFault → Result (List ℕ) ReadFault
text_of (Err f) = Err f
text_of (Ok x) = Ok (trace_text x)

-- what a rewriter writes of lines is the text of what a reader reads of them
abbrev pub RewritingIsReading : Type 0
RewritingIsReading = (lines : List (List ℕ)) → text_at_end (fold rewrite_line nothing_rewritten lines) ≡ text_of (at_end (fold take_line nothing_read lines))
