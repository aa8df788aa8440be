-- An endpoint behind its link and what is recorded of it, as contracts see them.
use Rattle.std.specs.Prelude.{◌≡◌, ◌⊎◌, Bool, true, false, List, ◌++◌}
use Rattle.flow_control.specs.declared.limits.LaneCredits.{LaneCredits}
use Rattle.config_core.specs.SetupView.{SetupView}
use Rattle.linked_endpoint.specs.LinkedView.{LinkedView}
use Rattle.linked_endpoint.specs.Linked as linked
use Rattle.linked_endpoint.specs.Runs.{Call, after_calls, AreTurns}
use Rattle.linked_endpoint.specs.Settling.{logged_all, settled}
use Rattle.endpoint_log.specs.declared.recording.Recording.{Recording}
use Rattle.endpoint_log.specs.Recordings.{new_recording, noted, dropped, IsOrLost}

pub record SessionView : Type 0 where
  pub linked : LinkedView
  pub recording : Recording

abbrev pub new_session : SetupView → LaneCredits → Bool → SessionView
new_session s ours is_traced = record { linked = linked.new_linked s ours; recording = new_recording s is_traced }

-- these calls lead from one to the other, and are recorded unless memory runs out
pub record Leads (old : SessionView) (calls : List Call) (new : SessionView) : Type 0 where
  pub linked : after_calls old.linked calls ≡ new.linked
  pub recording : IsOrLost new.recording (noted (logged_all old.linked calls) old.recording)

-- these calls, then requests act and completions enter
pub record IsTurned (old : SessionView) (calls : List Call) (new : SessionView) : Type 0 where
  pub turns : List Call
  pub are : AreTurns turns
  pub leads : Leads old (calls ++ turns) new

-- it goes as far as it goes by itself, or memory ran out for a completion that may enter: it is held
abbrev pub GoesFar : LinkedView → LinkedView → Type 0
GoesFar old new = (new ≡ settled old) ⊎ (linked.may_enter new ≡ true)

-- the same, until no request may act: none waits, a completion is held, or the next would be refused
pub record IsDone (old : SessionView) (calls : List Call) (new : SessionView) : Type 0 where
  pub turned : IsTurned old calls new
  pub rest : linked.may_act new.linked ≡ false
  pub far : GoesFar (after_calls old.linked calls) new.linked

-- the end of the link changes, and nothing is recorded
abbrev pub with_linked : SessionView → LinkedView → SessionView
with_linked s l = record { linked = l; recording = s.recording }

-- the device is reset with it
abbrev pub with_reset : SessionView → LinkedView → SessionView
with_reset s l = record { linked = l; recording = dropped s.recording }
