-- What a text of a trace is read as, line by line.
use Rattle.std.specs.Prelude.{ℕ, ◌≡◌, ◌⊎◌, Bool, true, false, List, [], ◌∷◌, ◌++◌, Result, Ok, Err}
use Rattle.seq_memory.specs.Limits.{Extent}
use Rattle.seq_memory.specs.Entries.{Entry}
use Rattle.history_words.specs.Records.{Record}
use Rattle.history_words.specs.Claim.{Claim}
use Rattle.operation_text.specs.Words.{words}
use Rattle.record_text.specs.declared.fault.ReadFault.{ReadFault}
use Rattle.record_text.specs.declared.fault.ReadFaultKind.{ReadFaultKind}
use Rattle.record_text.specs.Grammar.{Grammar}
use Rattle.record_text.specs.RecordReaderView.{RecordReaderView}
use Rattle.record_text.specs.RecordReaderView as reads
use Rattle.trace_text.specs.declared.line.Version.{Version}
use Rattle.trace_text.specs.declared.line.Version.TheVariants as versions
use Rattle.trace_text.specs.declared.line.Line.{Line}
use Rattle.trace_text.specs.declared.line.Line.TheVariants as lines
use Rattle.trace_text.specs.Forms.{line_of, section_after}

-- what is kept of the lines so far
pub record TraceFormView : Type 0 where
  pub version : Version
  pub extent : Extent
  pub records : List Record
  pub entries : List Entry

-- the extent is told by the memory's line, and that of the least memory until then
abbrev pub no_trace : TraceFormView
no_trace = record { version = versions.One; extent = record { base = 0; size = 128; block = 64 }; records = []; entries = [] }

-- what is kept with a line that is due
abbrev pub kept : TraceFormView → Line → TraceFormView
kept t (lines.FirstLine v) = record t { version = v }
kept t (lines.Memory x) = record t { extent = x }
kept t (lines.Record r) = record t { records = t.records ++ r ∷ [] }
kept t (lines.Entry e) = record t { entries = t.entries ++ e ∷ [] }
kept t lines.History = t
kept t lines.End = t

-- a list grows by its own lines alone
abbrev pub adds : Line → Bool
adds (lines.Record r) = true
adds (lines.Entry e) = true
adds _ = false

abbrev pub trace_grammar : Grammar TraceFormView Line
trace_grammar = record { line_of = λ t line. line_of t.version (words line); section_after = section_after; kept = kept; adds = adds }

-- the section that goes on, the number of lines, skipped ones counted, the first fault, and what is kept
abbrev pub TraceReaderView : Type 0
TraceReaderView = RecordReaderView TraceFormView

abbrev pub nothing_read : TraceReaderView
nothing_read = reads.nothing_read no_trace

abbrev pub fault_at_next : TraceReaderView → ReadFaultKind → ReadFault
fault_at_next s kind = reads.fault_at_next s kind

abbrev pub after_line : TraceReaderView → List ℕ → TraceReaderView
after_line s line = reads.after_line trace_grammar s line

abbrev pub after_long_line : TraceReaderView → TraceReaderView
after_long_line s = reads.after_long_line s

abbrev pub take_line : TraceReaderView → List ℕ → TraceReaderView
take_line s line = reads.take_line trace_grammar s line

-- no fault was read before, and the line adds a record or an entry
abbrev pub adds_one : TraceReaderView → List ℕ → Bool
adds_one s line = reads.adds_one trace_grammar s line

-- ---- the end

abbrev pub claim_read : TraceFormView → Claim
claim_read t = record {
  memory = record { base = t.extent.base; size = t.extent.size; block = t.extent.block; entries = t.entries };
  records = t.records;
}

abbrev pub claim_in : Result TraceFormView ReadFault → Result Claim ReadFault
claim_in (Err f) = Err f
claim_in (Ok t) = Ok (claim_read t)

abbrev pub at_end : TraceReaderView → Result Claim ReadFault
at_end s = claim_in (reads.at_end s)

-- the trace and the history that a text spells, or its first fault
abbrev pub read_of : List ℕ → Result Claim ReadFault
read_of text = claim_in (reads.read_of trace_grammar no_trace text)

-- an allocation failed for a record or an entry, before which no fault was read
abbrev pub IsRefused : List ℕ → ReadFault → Type 0
IsRefused text f = reads.IsRefused trace_grammar no_trace text f

-- the first fault, or that memory ran out before one
abbrev pub Tells : List ℕ → ReadFault → Type 0
Tells text f = (read_of text ≡ Err f) ⊎ IsRefused text f
