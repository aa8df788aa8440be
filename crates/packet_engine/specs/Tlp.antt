-- What `tlp` answers to a line of its input.
use Rattle.std.specs.Prelude.{ℕ, ◌/◌, List, [], ◌∷◌, ◌++◌, ◌==◌, if◌then◌else◌, true, false, count_by, codes, Option, Some, None, Result, Ok, Err}
use Rattle.std.specs.Fmt.{decimal}
use Rattle.hex.specs.Hex.{decode_of, encode_upper}
use Rattle.hex.specs.declared.error.FromHexError.{FromHexError}
use Rattle.tlp_core.specs.declared.fault.TlpFault.{TlpFault}
use Rattle.tlp_core.specs.Fault.{number_of, name_of}
use Rattle.tlp_core.specs.TlpView.{TlpView}
use Rattle.tlp_core.specs.Layout.{canonical}
use Rattle.tlp_core.specs.Faults.{reading}
use Rattle.tlp_core.specs.Operation.{is_completion}
use Rattle.seq_memory.specs.Entries.{Entry}
use Rattle.seq_memory.specs.Limits.{Extent}
use Rattle.seq_memory.specs.History.{MemoryView}
use Rattle.completer_core.specs.Serving.{after_serving, completion_to}
use Rattle.hex_text.specs.Line.{digits_of, spaced}
use Rattle.hex_text.specs.Lines.{is_skipped}
use Rattle.line_loop.specs.Run.{Answer, Responses, Run, run_of}

-- ---- texts

-- the bytes of the completion, in capitals in groups of four bytes; `-` where there is none
abbrev pub completion_text : Option TlpView → List ℕ
completion_text None = codes "-"
completion_text (Some t) = spaced (encode_upper (canonical t))

abbrev pub fault_text : TlpFault → List ℕ
fault_text f = codes "fault " ++ decimal (number_of f) ++ 32 ∷ name_of f

-- ---- answers, over any device

-- what an engine asks of a device: how many requests of a port acted, its state after a request under a number, and
-- the request's completion
pub record Device (S : Type 0) : Type 0 where
  pub count : S → ℕ → ℕ
  pub after : S → TlpView → ℕ → S
  pub completion : S → TlpView → Option TlpView

-- the device stays, and a line tells the fault
abbrev pub fault : {S : Type 0} → S → List ℕ → Answer S
fault s text = record { state = s; text = text ++ 10 ∷ []; is_fault = true }

-- nothing is done, and nothing written
abbrev pub nothing : {S : Type 0} → S → Answer S
nothing s = record { state = s; text = []; is_fault = false }

-- a request acts under the number of its requester's earlier ones: that has to be below 2^32 - 1
abbrev pub answer_request : {S : Type 0} → Device S → S → TlpView → ℕ → Answer S
answer_request d s t number =
    if number == 4294967295 then fault s (codes "fault numbers")
    else record { state = d.after s t number; text = completion_text (d.completion s t) ++ 10 ∷ []; is_fault = false }

abbrev pub answer_packet : {S : Type 0} → Device S → S → TlpView → Answer S
answer_packet d s t =
    if is_completion t.kind then fault s (codes "fault completion")
    else answer_request d s t (d.count s (t.requester / 256))

abbrev pub answer_reading : {S : Type 0} → Device S → S → Result TlpView TlpFault → Answer S
answer_reading d s (Err f) = fault s (fault_text f)
answer_reading d s (Ok t) = answer_packet d s t

abbrev pub answer_bytes : {S : Type 0} → Device S → S → Result (List ℕ) FromHexError → Answer S
answer_bytes d s (Err e) = fault s (codes "fault hex")
answer_bytes d s (Ok bytes) = answer_reading d s (reading bytes)

abbrev pub answer_line : {S : Type 0} → Device S → S → List ℕ → Answer S
answer_line d s line = if is_skipped line then nothing s else answer_bytes d s (decode_of (digits_of line))

abbrev pub responses : {S : Type 0} → Device S → Responses S
responses d = record { on_line = answer_line d; on_long_line = λ s. fault s (codes "fault line"); on_end = nothing }

-- ---- runs, of a memory with its history

-- how many requests of the requester at that port the history has
abbrev pub requests_of : List Entry → ℕ → ℕ
requests_of history port = count_by (λ e. e.requester == port) history

-- each request stands in the history
abbrev pub with_history : Device MemoryView
with_history = record { count = λ s port. requests_of s.entries port; after = after_serving; completion = completion_to }

abbrev pub tlp_responses : Responses MemoryView
tlp_responses = responses with_history

-- a memory of zeros with an empty history
abbrev pub new_state : Extent → MemoryView
new_state x = record { base = x.base; size = x.size; block = x.block; entries = [] }

-- the whole run of `tlp` on an input
abbrev pub out_tlp : Extent → List ℕ → Run MemoryView
out_tlp x input = run_of tlp_responses (new_state x) input
