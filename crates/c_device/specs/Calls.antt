-- The calls of a device with a history: what its memory and the caller's buffer hold after them, and what they return.
use Rattle.std.specs.Prelude.{ℕ, ⊤, ◌≡◌, ◌≤◌, not, false, nat_lt, if◌then◌else◌, List, ◌∷◌, ◌++◌, length, slice_get, Option, Some, None, Result, Ok, Err}
use Rattle.std.specs.Fmt.{decimal}
use Rattle.tlp_core.specs.declared.fault.TlpFault.{TlpFault}
use Rattle.tlp_core.specs.Fault.{number_of}
use Rattle.tlp_core.specs.Faults.{reading}
use Rattle.tlp_core.specs.Layout.{canonical}
use Rattle.tlp_core.specs.TlpView.{TlpView}
use Rattle.tlp_core.specs.Operation.{is_completion}
use Rattle.seq_memory.specs.Entries.{Entry}
use Rattle.seq_memory.specs.History.{MemoryView}
use Rattle.seq_memory.specs.Limits.{is_size, is_base, is_block}
use Rattle.completer_core.specs.Serving.{after_serving, completion_to}
use Rattle.operation_text.specs.Texts.{op_text}
use Rattle.c_buffer.specs.declared.outcome.Failure.{Failure}
use Rattle.c_buffer.specs.declared.outcome.Failure.TheVariants as failures
use Rattle.c_buffer.specs.Buffer.{filled, Told, untold, told}

-- ---- making

-- the first limit that is not kept, if there is one
abbrev pub limits : ℕ → ℕ → ℕ → Result ⊤ Failure
limits base size block =
    if not (is_size size) then Err failures.WrongSize
    else (if not (is_base base size) then Err failures.WrongBase
    else (if is_block block then Ok tt else Err failures.WrongBlock))

-- ---- serving

pub record Service : Type 0 where
  pub outcome : Result ℕ Failure
  pub memory : MemoryView
  pub buffer : List ℕ

-- nothing changes
abbrev pub refused : Failure → MemoryView → List ℕ → Service
refused failure s buffer = record { outcome = Err failure; memory = s; buffer = buffer }

-- the completion stands in the buffer, if there is one
abbrev pub answered : MemoryView → List ℕ → Option TlpView → Service
answered s buffer None = record { outcome = Ok 0; memory = s; buffer = buffer }
answered s buffer (Some c) = record { outcome = Ok (length (canonical c)); memory = s; buffer = filled buffer (canonical c) }

-- a packet is served if it is a request
abbrev pub served : MemoryView → ℕ → List ℕ → TlpView → Service
served s number buffer t =
    if is_completion t.kind then refused failures.NoRequest s buffer
    else answered (after_serving s t number) buffer (completion_to s t)

abbrev pub read : MemoryView → ℕ → List ℕ → Result TlpView TlpFault → Service
read s number buffer (Err f) = refused (failures.Fault (number_of f)) s buffer
read s number buffer (Ok t) = served s number buffer t

-- the buffer is tested first, then the packet
abbrev pub service : MemoryView → ℕ → List ℕ → List ℕ → Service
service s number packet buffer =
    if nat_lt (length buffer) 144 then refused failures.SmallBuffer s buffer else read s number buffer (reading packet)

-- there is nothing to refuse but memory: the buffer is large enough, and the bytes spell a request
abbrev pub IsRequestCall : List ℕ → List ℕ → Type 0
IsRequestCall packet buffer = (144 ≤ length buffer) × (t : TlpView) × (reading packet ≡ Ok t) × (is_completion t.kind ≡ false)

-- ---- what is held

-- the requester, the number among its requests and the operation
abbrev pub entry_text : Entry → List ℕ
entry_text e = decimal e.requester ++ 32 ∷ decimal e.number ++ 32 ∷ op_text e.op

abbrev pub found : List ℕ → Option Entry → Told ℕ
found buffer None = untold buffer (Err failures.NoEntry)
found buffer (Some e) = told buffer (entry_text e)

abbrev pub entry_told : List Entry → ℕ → List ℕ → Told ℕ
entry_told entries index buffer =
    if nat_lt (length buffer) 512 then untold buffer (Err failures.SmallBuffer) else found buffer (slice_get entries index)
