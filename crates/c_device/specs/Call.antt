-- A call of the device: what its caller's bytes and buffer hold after it, and what it returns.
use Rattle.std.specs.Prelude.{ℕ, nat_lt, if◌then◌else◌, List, length, Option, Some, None, Result, Ok, Err}
use Rattle.seq_memory.specs.Limits.{is_block}
use Rattle.tlp_core.specs.declared.fault.TlpFault.{TlpFault}
use Rattle.tlp_core.specs.Fault.{number_of}
use Rattle.tlp_core.specs.Faults.{reading}
use Rattle.tlp_core.specs.Layout.{canonical}
use Rattle.tlp_core.specs.TlpView.{TlpView}
use Rattle.tlp_core.specs.Operation.{is_completion}
use Rattle.completer_core.specs.Serving.{bytes_after, completion_over}
use Rattle.c_buffer.specs.declared.outcome.Failure.{Failure}
use Rattle.c_buffer.specs.declared.outcome.Failure.TheVariants as failures
use Rattle.c_buffer.specs.Buffer.{filled}

pub record Call : Type 0 where
  pub outcome : Result ℕ Failure
  pub bytes : List ℕ
  pub buffer : List ℕ

-- nothing changes
abbrev pub refused : Failure → List ℕ → List ℕ → Call
refused failure bytes buffer = record { outcome = Err failure; bytes = bytes; buffer = buffer }

-- the completion stands in the buffer, if there is one
abbrev pub answered : List ℕ → List ℕ → Option TlpView → Call
answered bytes buffer None = record { outcome = Ok 0; bytes = bytes; buffer = buffer }
answered bytes buffer (Some c) = record { outcome = Ok (length (canonical c)); bytes = bytes; buffer = filled buffer (canonical c) }

-- a packet is served if it is a request
abbrev pub served : ℕ → ℕ → List ℕ → List ℕ → TlpView → Call
served base block bytes buffer t =
    if is_completion t.kind then refused failures.NoRequest bytes buffer
    else answered (bytes_after base block bytes t) buffer (completion_over base block bytes t)

abbrev pub read : ℕ → ℕ → List ℕ → List ℕ → Result TlpView TlpFault → Call
read base block bytes buffer (Err f) = refused (failures.Fault (number_of f)) bytes buffer
read base block bytes buffer (Ok t) = served base block bytes buffer t

-- the block is tested first, then the buffer, then the packet
abbrev pub call : ℕ → ℕ → List ℕ → List ℕ → List ℕ → Call
call base block bytes packet buffer =
    if is_block block then (if nat_lt (length buffer) 144 then refused failures.SmallBuffer bytes buffer else read base block bytes buffer (reading packet))
    else refused failures.WrongBlock bytes buffer
