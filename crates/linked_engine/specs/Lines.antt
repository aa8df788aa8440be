-- What `endpoint --link` answers to the lines of its input.
use Rattle.std.specs.Prelude.{ℕ, Bool, true, false, if◌then◌else◌, List, [], ◌∷◌, ◌++◌, take, drop, codes, bytes_eq, Option, Some, None, option_map, Result, Ok, Err}
use Rattle.hex.specs.Hex.{decode_of}
use Rattle.hex.specs.declared.error.FromHexError.{FromHexError}
use Rattle.flow_control.specs.declared.limits.LaneCredits.{LaneCredits}
use Rattle.link_crc.specs.Checks.{lcrc_check_of, framed}
use Rattle.link_crc.specs.declared.check.Check.{Check}
use Rattle.config_core.specs.SetupView.{SetupView}
use Rattle.port_core.specs.Port as port
use Rattle.linked_endpoint.specs.LinkedView.{LinkedView}
use Rattle.linked_endpoint.specs.Linked as link
use Rattle.linked_endpoint.specs.Runs.{Call, Up, Down, Receive, ReceiveDllp, Next, Refresh, Replay, Retrained, after_call, after_calls}
use Rattle.linked_endpoint.specs.Settling.{logged_all, settling}
use Rattle.endpoint_log.specs.LogView.{LogView}
use Rattle.endpoint_log.specs.Steps as log
use Rattle.hex_text.specs.Line.{digits_of}
use Rattle.hex_text.specs.Lines.{is_skipped}
use Rattle.trace_text.specs.Texts.{trace_text}
use Rattle.line_loop.specs.Run.{Answer, Responses, Run, run_of}
use Rattle.linked_engine.specs.declared.frames.Mark.{Mark}
use Rattle.linked_engine.specs.declared.frames.Mark.TheVariants as marks
use Rattle.linked_engine.specs.Crcs.{marked_packet, marked_dllp, without_last, dllp_check}
use Rattle.linked_engine.specs.Texts.{arrived_text, heard_text, sent_text, replay_text, state_text}

-- a device behind its end of a link, and what is recorded of the device, if it is traced
pub record LinkLines : Type 0 where
  pub linked : LinkedView
  pub log : Option LogView
  -- whether packets and DLLPs have their CRC behind them
  pub has_crc : Bool

-- nothing is done, and nothing written
abbrev pub nothing : LinkLines → Answer LinkLines
nothing u = record { state = u; text = []; is_fault = false }

-- a line of no form: nothing changes
abbrev pub no_line : LinkLines → Answer LinkLines
no_line u = record { state = u; text = codes "fault Line\n"; is_fault = true }

abbrev pub answered : LinkLines → List ℕ → Answer LinkLines
answered u text = record { state = u; text = text ++ 10 ∷ []; is_fault = false }

-- the link does this, and nothing is recorded
abbrev pub called : LinkLines → Call → LinkLines
called u call = record { linked = after_call u.linked call; log = u.log; has_crc = u.has_crc }

-- ---- requests act

-- the link does these, and what they do is recorded
abbrev pub did : LinkLines → List Call → LinkLines
did u calls = record { linked = after_calls u.linked calls; log = option_map (logged_all u.linked calls) u.log; has_crc = u.has_crc }

-- requests act as far as the peer's credits and the window of 2047 packets go
abbrev pub settled : LinkLines → LinkLines
settled u = did u (settling u.linked)

-- ---- a packet arrives

abbrev pub received : LinkLines → List ℕ → Check → LinkLines
received u packet check = did u (Receive packet check ∷ [])

abbrev pub answer_arrival : LinkLines → List ℕ → Check → Answer LinkLines
answer_arrival u packet check = answered (settled (received u packet check)) (arrived_text (link.arrived u.linked packet check))

-- with its LCRC; a nullified one, which has no check, is discarded without a Nak
abbrev pub answer_checked : LinkLines → Option Check → List ℕ → Answer LinkLines
answer_checked u (Some check) packet = answer_arrival u packet check
answer_checked u None packet = answered u (codes "gone")

abbrev pub answer_packet_bytes : LinkLines → Result (List ℕ) FromHexError → Mark → Answer LinkLines
answer_packet_bytes u (Err e) mark = no_line u
answer_packet_bytes u (Ok bytes) (marks.Word check) = answer_arrival u bytes check
answer_packet_bytes u (Ok bytes) (marks.Framing framing) = answer_checked u (framed (lcrc_check_of bytes) framing) (without_last 4 bytes)

abbrev pub answer_packet : LinkLines → Option (List ℕ × Mark) → Answer LinkLines
answer_packet u None = no_line u
answer_packet u (Some m) = answer_packet_bytes u (decode_of (digits_of m.0)) m.1

-- ---- a DLLP arrives

abbrev pub answer_hearing : LinkLines → List ℕ → Check → Answer LinkLines
answer_hearing u bytes check = answered (settled (called u (ReceiveDllp bytes check))) (heard_text (port.dllp_answer u.linked.port bytes check))

abbrev pub answer_dllp_bytes : LinkLines → Result (List ℕ) FromHexError → Check → Answer LinkLines
answer_dllp_bytes u (Err e) check = no_line u
answer_dllp_bytes u (Ok bytes) check =
    if u.has_crc then answer_hearing u (take 4 bytes) (dllp_check bytes) else answer_hearing u bytes check

abbrev pub answer_dllp : LinkLines → Option (List ℕ × Check) → Answer LinkLines
answer_dllp u None = no_line u
answer_dllp u (Some m) = answer_dllp_bytes u (decode_of (digits_of m.0)) m.1

-- ---- lines of one word

-- what is sent next
abbrev pub answer_next : LinkLines → Answer LinkLines
answer_next u = answered (called u Next) (sent_text u.has_crc (port.outgoing_of u.linked.port) (port.outgoing_bytes u.linked.port))

-- the device is reset
abbrev pub reset_by : LinkLines → Call → LinkLines
reset_by u call = record { linked = after_call u.linked call; log = option_map log.dropped u.log; has_crc = u.has_crc }

abbrev pub answer_up : LinkLines → Answer LinkLines
answer_up u = answered (reset_by u Up) (codes "up")

abbrev pub answer_down : LinkLines → Answer LinkLines
answer_down u = answered (reset_by u Down) (codes "down")

abbrev pub answer_refresh : LinkLines → Answer LinkLines
answer_refresh u = answered (called u Refresh) (codes "refresh")

abbrev pub answer_replay : LinkLines → Answer LinkLines
answer_replay u =
    answered (called u Replay) (replay_text (port.after_replay u.linked.port).sender.sending.stopped u.linked.port.sender.sending.place)

abbrev pub answer_retrained : LinkLines → Answer LinkLines
answer_retrained u = answered (called u Retrained) (codes "retrained")

abbrev pub answer_state : LinkLines → Answer LinkLines
answer_state u = answered u (state_text u.linked)

-- what was recorded, where the device is traced
abbrev pub answer_trace : LinkLines → Option LogView → Answer LinkLines
answer_trace u None = no_line u
answer_trace u (Some l) = record { state = u; text = trace_text l.claim; is_fault = false }

-- the physical layer and timers
abbrev pub answer_timer : LinkLines → List ℕ → Answer LinkLines
answer_timer u line =
    if bytes_eq line (codes "refresh") then answer_refresh u
    else (if bytes_eq line (codes "replay") then answer_replay u
    else (if bytes_eq line (codes "retrained") then answer_retrained u
    else no_line u))

abbrev pub answer_link : LinkLines → List ℕ → Answer LinkLines
answer_link u line =
    if bytes_eq line (codes "up") then answer_up u
    else (if bytes_eq line (codes "down") then answer_down u
    else answer_timer u line)

abbrev pub answer_word : LinkLines → List ℕ → Answer LinkLines
answer_word u line =
    if bytes_eq line (codes "next") then answer_next u
    else (if bytes_eq line (codes "state") then answer_state u
    else (if bytes_eq line (codes "trace") then answer_trace u u.log
    else answer_link u line))

-- a packet stands behind `packet` and a space, a DLLP behind `dllp` and a space
abbrev pub is_packet : List ℕ → Bool
is_packet line = bytes_eq (take 7 line) (codes "packet ")

abbrev pub is_dllp : List ℕ → Bool
is_dllp line = bytes_eq (take 5 line) (codes "dllp ")

abbrev pub answer_line : LinkLines → List ℕ → Answer LinkLines
answer_line u line =
    if is_skipped line then nothing u
    else (if is_packet line then answer_packet u (marked_packet u.has_crc (drop 7 line))
    else (if is_dllp line then answer_dllp u (marked_dllp u.has_crc (drop 5 line))
    else answer_word u line))

abbrev pub link_responses : Responses LinkLines
link_responses = record { on_line = answer_line; on_long_line = no_line; on_end = nothing }

-- a device that advertises these credits, whose link is down
abbrev pub new_lines : SetupView → LaneCredits → Bool → Bool → LinkLines
new_lines s ours has_crc is_traced =
    record { linked = link.new_linked s ours; log = if is_traced then Some (log.new_log s) else None; has_crc = has_crc }

-- the whole run of `endpoint --link` on an input
abbrev pub out_linked : SetupView → LaneCredits → Bool → Bool → List ℕ → Run LinkLines
out_linked s ours has_crc is_traced input = run_of link_responses (new_lines s ours has_crc is_traced) input
