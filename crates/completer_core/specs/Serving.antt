-- A request is served: one step of the memory, one entry, and one completion or none.
use Rattle.std.specs.Prelude.{ℕ, ◌/◌, List, [], ◌∷◌, ◌++◌, Option, option_and_then}
use Rattle.std.specs.Option.{option_map_or}
use Rattle.tlp_core.specs.Ops.{Op}
use Rattle.tlp_core.specs.TlpView.{TlpView}
use Rattle.tlp_core.specs.Operation.{op_of}
use Rattle.seq_memory.specs.Entries.{Entry}
use Rattle.seq_memory.specs.Step.{after, answer}
use Rattle.seq_memory.specs.History.{MemoryView, bytes_of}
use Rattle.completer_core.specs.Completion.{completion_of}

-- the entry of a request: its requester is the port of its Requester ID
abbrev pub request_entry : TlpView → ℕ → Op → Entry
request_entry t number op = record { requester = t.requester / 256; number = number; op = op }

-- the history with one more entry
abbrev pub with_entry : MemoryView → Entry → MemoryView
with_entry s e = record s { entries = s.entries ++ e ∷ [] }

-- the memory after the request with that number; a packet that asks for nothing changes nothing
abbrev pub after_serving : MemoryView → TlpView → ℕ → MemoryView
after_serving s t number = option_map_or (λ op. with_entry s (request_entry t number op)) (op_of t) s

-- the bytes, from an address on, after the request; a packet that asks for nothing changes nothing
abbrev pub bytes_after : ℕ → ℕ → List ℕ → TlpView → List ℕ
bytes_after base block m t = option_map_or (λ op. after base block m op) (op_of t) m

-- the completion of the request, which carries the reply of those bytes
abbrev pub completion_over : ℕ → ℕ → List ℕ → TlpView → Option TlpView
completion_over base block m t = option_and_then (λ op. completion_of t (answer base block m op)) (op_of t)

-- the completion of the request by a memory
abbrev pub completion_to : MemoryView → TlpView → Option TlpView
completion_to s t = completion_over s.base s.block (bytes_of s) t
