-- How far a device behind its end of a link goes by itself, and what its calls record.
use Rattle.std.specs.Prelude.{◌≡◌, ℕ, zero, suc, if◌then◌else◌, List, [], ◌∷◌, ◌++◌}
use Rattle.endpoint_core.specs.Classes.{becomes}
use Rattle.endpoint_log.specs.LogView.{LogView}
use Rattle.endpoint_log.specs.Steps as log
use Rattle.endpoint_log.specs.declared.recording.Recording.{Recording}
use Rattle.endpoint_log.specs.Recordings.{noted, IsOrLost}
use Rattle.port_core.specs.Incoming.{tlp_in}
use Rattle.port_core.specs.Port.{received}
use Rattle.linked_endpoint.specs.LinkedView.{LinkedView}
use Rattle.linked_endpoint.specs.Linked.{is_taken, may_act, turns_left}
use Rattle.linked_endpoint.specs.Runs.{Call, Up, Down, Receive, Act, Enter, after_call, after_calls, GoesOn}

-- what a call records: what the device takes, what acts with its completion, and a reset
abbrev pub logged : LinkedView → Call → LogView → LogView
logged l Up r = log.dropped r
logged l Down r = log.dropped r
logged l (Receive packet check) r = if is_taken (received l.port packet check) then log.came l.endpoint.device (becomes (tlp_in packet)) r else r
logged l Act r = if may_act l then log.acted l.endpoint r else r
logged l _ r = r

-- what calls record, in turn
abbrev pub logged_all : LinkedView → List Call → LogView → LogView
logged_all l [] r = r
logged_all l (call ∷ calls) r = logged_all (after_call l call) calls (logged l call r)

-- a request acts, and its completion enters
abbrev pub turned : LinkedView → LinkedView
turned l = after_call (after_call l Act) Enter

-- so many turns at most, as long as a request may act
unfoldable pub turns : ℕ → LinkedView → List Call
turns zero l = []
turns (suc n) l = if may_act l then Act ∷ Enter ∷ turns n (turned l) else []

-- there are no more turns to make than these
abbrev pub all_turns : LinkedView → List Call
all_turns l = turns (turns_left l) l

-- the completion that is held enters, and then requests act and their completions enter
abbrev pub settling : LinkedView → List Call
settling l = Enter ∷ all_turns (after_call l Enter)

abbrev pub settled : LinkedView → LinkedView
settled l = after_calls l (settling l)

-- it goes as far, or stops on the way; and what acts is recorded, unless memory for it runs out
pub record IsOnWay (old : LinkedView) (r : Recording) (new : LinkedView) (r' : Recording) : Type 0 where
  pub goes : GoesOn old new
  pub recorded : IsOrLost r' (noted (logged_all old goes.turns) r)
  -- what is left
  pub rest : List Call
  pub part : goes.turns ++ rest ≡ settling old
