-- An endpoint and what is recorded of it, as contracts see them.
use Rattle.std.specs.Prelude.{◌≡◌, Bool, Option, Some, None}
use Rattle.config_core.specs.SetupView.{SetupView}
use Rattle.endpoint_core.specs.EndpointView.{EndpointView}
use Rattle.endpoint_core.specs.Steps.{new_endpoint, after_reset_of}
use Rattle.endpoint_log.specs.declared.recording.Recording.{Recording}
use Rattle.endpoint_log.specs.Recordings.{new_recording, dropped, IsOrLost}

pub record SessionView : Type 0 where
  pub endpoint : EndpointView
  pub recording : Recording

abbrev pub new_session : SetupView → Bool → SessionView
new_session s is_traced = record { endpoint = new_endpoint s; recording = new_recording s is_traced }

abbrev pub after_reset : SessionView → SessionView
after_reset s = record { endpoint = after_reset_of s.endpoint; recording = dropped s.recording }

-- a slot holds this endpoint, and this is recorded of it, unless memory ran out
abbrev pub Holds : Option SessionView → EndpointView → Recording → Type 0
Holds None e r = ⊥
Holds (Some s) e r = (s.endpoint ≡ e) × IsOrLost s.recording r
