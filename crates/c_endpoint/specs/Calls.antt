-- The calls of an endpoint: what it and the caller's buffer hold after them, and what they return.
use Rattle.std.specs.Prelude.{ℕ, ⊤, nat_lt, if◌then◌else◌, List, length, Option, Some, None, Result, Ok, Err}
use Rattle.tlp_core.specs.Layout.{canonical}
use Rattle.tlp_core.specs.TlpView.{TlpView}
use Rattle.config_core.specs.SetupView.{SetupView, is_size}
use Rattle.endpoint_core.specs.EndpointView.{EndpointView}
use Rattle.endpoint_core.specs.Steps.{acted, next_completion}
use Rattle.c_buffer.specs.declared.outcome.Failure.{Failure}
use Rattle.c_buffer.specs.declared.outcome.Failure.TheVariants.{SmallBuffer, WrongSize}
use Rattle.c_buffer.specs.Buffer.{filled}
use Rattle.c_endpoint.specs.declared.slot.Wanted.{Wanted}

-- a memory's size is a power of two from 4096 to 1,048,576
abbrev pub limit : ℕ → Result ⊤ Failure
limit size = if is_size size then Ok tt else Err WrongSize

abbrev pub setup_with : Wanted → SetupView
setup_with w = record { size = w.size; vendor = w.vendor; device = w.device }

pub record NextCall : Type 0 where
  pub outcome : Result ℕ Failure
  pub endpoint : EndpointView
  pub buffer : List ℕ

-- the completion stands in the buffer, if there is one
abbrev pub answered : EndpointView → List ℕ → Option TlpView → NextCall
answered e buffer None = record { outcome = Ok 0; endpoint = e; buffer = buffer }
answered e buffer (Some c) = record { outcome = Ok (length (canonical c)); endpoint = e; buffer = filled buffer (canonical c) }

-- the oldest request that waits acts, unless the buffer is too small
abbrev pub next_call : EndpointView → List ℕ → NextCall
next_call e buffer =
    if nat_lt (length buffer) 144 then record { outcome = Err SmallBuffer; endpoint = e; buffer = buffer }
    else answered (acted e) buffer (next_completion e)
