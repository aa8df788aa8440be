-- A text of a trace that is written in the second version while it is read.
use Rattle.std.specs.Prelude.{ℕ, Bool, true, List, [], ◌∷◌, ◌++◌, codes, Result, Ok, Err}
use Rattle.history_words.specs.declared.record.RecordOf.TheVariants as records
use Rattle.operation_text.specs.Words.{words}
use Rattle.operation_text.specs.Texts.{op_text, reply_text}
use Rattle.record_text.specs.declared.fault.ReadFault.{ReadFault}
use Rattle.record_text.specs.Grammar.{Grammar}
use Rattle.record_text.specs.RecordReaderView.{RecordReaderView}
use Rattle.record_text.specs.RecordReaderView as reads
use Rattle.trace_text.specs.declared.line.Version.{Version}
use Rattle.trace_text.specs.declared.line.Version.TheVariants as versions
use Rattle.trace_text.specs.declared.line.Line.{Line}
use Rattle.trace_text.specs.declared.line.Line.TheVariants as lines
use Rattle.trace_text.specs.Forms.{line_of, section_after}
use Rattle.trace_text.specs.Texts.{memory_line, record_line, entry_line}

-- what is kept of the lines so far: no record and no entry
pub record RewriteFormView : Type 0 where
  pub version : Version
  pub text : List ℕ

-- what a line adds to the text
abbrev pub added : Line → List ℕ
added (lines.FirstLine v) = codes "pciex-trace 2\n"
added (lines.Memory x) = memory_line (record { base = x.base; size = x.size; block = x.block; entries = [] }) ++ 10 ∷ []
added (lines.Record r) = record_line r ++ 10 ∷ []
added lines.History = codes "history\n"
added (lines.Entry e) = entry_line e ++ 10 ∷ []
added lines.End = codes "end\n"

-- what is written of a line from its operation or its reply on; all of the line, if it has neither
abbrev pub behind_of : Line → List ℕ
behind_of (lines.Record (records.Sub i k op n)) = op_text op ++ 10 ∷ []
behind_of (lines.Record (records.Ans i k reply n)) = reply_text reply ++ 10 ∷ []
behind_of (lines.Entry e) = op_text e.op ++ 10 ∷ []
behind_of l = added l

abbrev pub version_after : Version → Line → Version
version_after v (lines.FirstLine w) = w
version_after v _ = v

abbrev pub written : RewriteFormView → Line → RewriteFormView
written w l = record { version = version_after w.version l; text = w.text ++ added l }

abbrev pub rewrite_grammar : Grammar RewriteFormView Line
rewrite_grammar = record { line_of = λ w line. line_of w.version (words line); section_after = section_after; kept = written; adds = λ l. true }

abbrev pub TraceRewriterView : Type 0
TraceRewriterView = RecordReaderView RewriteFormView

abbrev pub nothing_rewritten : TraceRewriterView
nothing_rewritten = reads.nothing_read (record { version = versions.One; text = [] })

abbrev pub after_line : TraceRewriterView → List ℕ → TraceRewriterView
after_line w line = reads.after_line rewrite_grammar w line

-- a line may add to what is kept
abbrev pub adds_one : TraceRewriterView → List ℕ → Bool
adds_one w line = reads.adds_one rewrite_grammar w line

abbrev pub after_long_line : TraceRewriterView → TraceRewriterView
after_long_line w = reads.after_long_line w

abbrev pub text_in : Result RewriteFormView ReadFault → Result (List ℕ) ReadFault
text_in (Err f) = Err f
text_in (Ok w) = Ok w.text

-- the text in the second version, or the first fault
abbrev pub text_at_end : TraceRewriterView → Result (List ℕ) ReadFault
text_at_end w = text_in (reads.at_end w)
