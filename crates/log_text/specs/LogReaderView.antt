-- What a text of a log is read as, line by line; and a text that has a log or a trace.
use Rattle.std.specs.Prelude.{ℕ, ◌≡◌, ◌⊎◌, Bool, true, false, if◌then◌else◌, List, [], ◌∷◌, ◌++◌, Result, Ok, Err}
use Rattle.seq_memory.specs.Limits.{Extent}
use Rattle.history_words.specs.Records.{Record}
use Rattle.history_words.specs.Claim.{Claim}
use Rattle.history_words.specs.TraceView.{TraceView}
use Rattle.record_text.specs.declared.fault.ReadFault.{ReadFault}
use Rattle.record_text.specs.declared.fault.ReadFaultKind.{ReadFaultKind}
use Rattle.record_text.specs.declared.fault.ReadFaultKind.TheVariants as faults
use Rattle.record_text.specs.Grammar.{Grammar}
use Rattle.record_text.specs.RecordReaderView as reads
use Rattle.trace_store.specs.Changes.{seen_by}
use Rattle.trace_text.specs.TraceReaderView as traces
use Rattle.log_text.specs.declared.line.LogLine.{LogLine}
use Rattle.log_text.specs.declared.line.LogLine.TheVariants as lines
use Rattle.log_text.specs.Forms.{line_of, section_after}
use Rattle.log_text.specs.declared.line.Version.{Version}
use Rattle.log_text.specs.declared.line.Version.TheVariants as versions

-- what is kept of the lines so far
pub record LogFormView : Type 0 where
  pub version : Version
  pub extent : Extent
  pub records : List Record

-- the version is told by the first line, the extent by the memory's line, and that of the least memory until then
abbrev pub no_log : LogFormView
no_log = record { version = versions.One; extent = record { base = 0; size = 128; block = 64 }; records = [] }

-- what is kept with a line that is due
abbrev pub kept : LogFormView → LogLine → LogFormView
kept l (lines.Memory x) = record l { extent = x }
kept l (lines.Record r) = record l { records = l.records ++ r ∷ [] }
kept l (lines.FirstLine v) = record l { version = v }
kept l lines.End = l

-- the list of records grows by records alone
abbrev pub adds : LogLine → Bool
adds (lines.Record r) = true
adds _ = false

abbrev pub log_grammar : Grammar LogFormView LogLine
log_grammar = record { line_of = λ l line. line_of l.version line; section_after = section_after; kept = kept; adds = adds }

abbrev pub log_read : LogFormView → TraceView
log_read l = record { base = l.extent.base; size = l.extent.size; block = l.extent.block; records = l.records }

abbrev pub log_in : Result LogFormView ReadFault → Result TraceView ReadFault
log_in (Err f) = Err f
log_in (Ok l) = Ok (log_read l)

-- the log that a text spells, or its first fault; each n is 0
abbrev pub log_of : List ℕ → Result TraceView ReadFault
log_of text = log_in (reads.read_of log_grammar no_log text)

-- an allocation failed for a record, before which no fault was read
abbrev pub IsRefused : List ℕ → ReadFault → Type 0
IsRefused text f = reads.IsRefused log_grammar no_log text f

-- the first fault, or that memory ran out before one
abbrev pub Tells : List ℕ → ReadFault → Type 0
Tells text f = (log_of text ≡ Err f) ⊎ IsRefused text f

-- ---- a log or a trace

-- a trace without its history
abbrev pub without_history : Result Claim ReadFault → Result TraceView ReadFault
without_history (Err f) = Err f
without_history (Ok c) = Ok (seen_by c)

abbrev pub is_head : ReadFaultKind → Bool
is_head faults.Head = true
is_head _ = false

-- a text whose head is none of a log is read as a trace
abbrev pub or_trace : Result TraceView ReadFault → List ℕ → Result TraceView ReadFault
or_trace (Ok t) text = Ok t
or_trace (Err f) text = if is_head f.kind then without_history (traces.read_of text) else Err f

-- what was seen: the log that the text spells, or the trace without its history; or the first fault
unfoldable pub seen_of : List ℕ → Result TraceView ReadFault
seen_of text = or_trace (log_of text) text

-- the first fault, or that memory ran out before one
abbrev pub SeenTells : List ℕ → ReadFault → Type 0
SeenTells text f = (seen_of text ≡ Err f) ⊎ IsRefused text f ⊎ traces.IsRefused text f
