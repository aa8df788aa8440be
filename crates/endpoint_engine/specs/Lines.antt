-- What `endpoint` answers to the lines of its input.
use Rattle.std.specs.Prelude.{ℕ, Bool, true, false, if◌then◌else◌, List, [], ◌∷◌, ◌++◌, take, drop, codes, bytes_eq, Option, Some, None, option_map, Result, Ok, Err}
use Rattle.hex.specs.Hex.{decode_of}
use Rattle.hex.specs.declared.error.FromHexError.{FromHexError}
use Rattle.config_core.specs.SetupView.{SetupView}
use Rattle.endpoint_core.specs.Classes.{becomes}
use Rattle.endpoint_core.specs.EndpointView.{EndpointView}
use Rattle.endpoint_core.specs.Steps as device
use Rattle.endpoint_log.specs.LogView.{LogView}
use Rattle.endpoint_log.specs.Steps as log
use Rattle.hex_text.specs.Line.{digits_of}
use Rattle.hex_text.specs.Lines.{is_skipped}
use Rattle.trace_text.specs.Texts.{trace_text}
use Rattle.line_loop.specs.Run.{Answer, Responses, Run, run_of}
use Rattle.endpoint_engine.specs.Texts.{handled_text, completion_text}

-- a device, and what is recorded of it, if it is traced
pub record DeviceLines : Type 0 where
  pub endpoint : EndpointView
  pub log : Option LogView

-- nothing is done, and nothing written
abbrev pub nothing : DeviceLines → Answer DeviceLines
nothing u = record { state = u; text = []; is_fault = false }

-- a line of no form: nothing changes
abbrev pub no_line : DeviceLines → Answer DeviceLines
no_line u = record { state = u; text = codes "fault Line\n"; is_fault = true }

abbrev pub taken : DeviceLines → List ℕ → DeviceLines
taken u bytes = record { endpoint = device.taken u.endpoint bytes; log = option_map (log.came u.endpoint.device (becomes bytes)) u.log }

-- a TLP of these bytes comes
abbrev pub answer_tlp : DeviceLines → Result (List ℕ) FromHexError → Answer DeviceLines
answer_tlp u (Err e) = no_line u
answer_tlp u (Ok bytes) = record { state = taken u bytes; text = handled_text (device.handled u.endpoint bytes) ++ 10 ∷ []; is_fault = false }

-- the oldest request acts, a read by one block
abbrev pub acted : DeviceLines → DeviceLines
acted u = record { endpoint = device.acted u.endpoint; log = option_map (log.acted u.endpoint) u.log }

-- its completion is written
abbrev pub answer_next : DeviceLines → Answer DeviceLines
answer_next u = record { state = acted u; text = completion_text (device.next_completion u.endpoint) ++ 10 ∷ []; is_fault = false }

abbrev pub after_reset : DeviceLines → DeviceLines
after_reset u = record { endpoint = device.after_reset_of u.endpoint; log = option_map log.dropped u.log }

abbrev pub answer_reset : DeviceLines → Answer DeviceLines
answer_reset u = record { state = after_reset u; text = codes "reset\n"; is_fault = false }

-- what was recorded, where the device is traced
abbrev pub answer_trace : DeviceLines → Option LogView → Answer DeviceLines
answer_trace u None = no_line u
answer_trace u (Some l) = record { state = u; text = trace_text l.claim; is_fault = false }

-- a line that is no TLP
abbrev pub answer_word : DeviceLines → List ℕ → Answer DeviceLines
answer_word u line =
    if bytes_eq line (codes "next") then answer_next u
    else (if bytes_eq line (codes "reset") then answer_reset u
    else (if bytes_eq line (codes "trace") then answer_trace u u.log
    else no_line u))

-- a TLP stands behind `tlp` and a space
abbrev pub is_tlp : List ℕ → Bool
is_tlp line = bytes_eq (take 4 line) (codes "tlp ")

abbrev pub answer_line : DeviceLines → List ℕ → Answer DeviceLines
answer_line u line =
    if is_skipped line then nothing u
    else (if is_tlp line then answer_tlp u (decode_of (digits_of (drop 4 line)))
    else answer_word u line)

abbrev pub endpoint_responses : Responses DeviceLines
endpoint_responses = record { on_line = answer_line; on_long_line = no_line; on_end = nothing }

abbrev pub new_device : SetupView → Bool → DeviceLines
new_device s is_traced = record { endpoint = device.new_endpoint s; log = if is_traced then Some (log.new_log s) else None }

-- the whole run of `endpoint` on an input
abbrev pub out_endpoint : SetupView → Bool → List ℕ → Run DeviceLines
out_endpoint s is_traced input = run_of endpoint_responses (new_device s is_traced) input
