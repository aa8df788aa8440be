-- What is recorded of a device over a list of calls.
use Rattle.std.specs.Prelude.{ℕ, List, [], ◌∷◌}
use Rattle.tlp_core.specs.Bits.{IsBytes}
use Rattle.history_words.specs.Claim.{Claim}
use Rattle.config_core.specs.SetupView.{SetupView}
use Rattle.endpoint_core.specs.Classes.{becomes}
use Rattle.endpoint_core.specs.EndpointView.{EndpointView}
use Rattle.endpoint_core.specs.Steps.{new_endpoint}
use Rattle.endpoint_core.specs.Runs.{Call, Take, Act, Reset, after_call}
use Rattle.endpoint_log.specs.LogView.{LogView}
use Rattle.endpoint_log.specs.Steps.{new_log, came, acted, dropped}

-- after one call
abbrev pub logged : EndpointView → LogView → Call → LogView
logged e l (Take b) = came e.device (becomes b) l
logged e l Act = acted e l
logged e l Reset = dropped l

-- after all of them, in turn
unfoldable pub log_after : EndpointView → LogView → List Call → LogView
log_after e l [] = l
log_after e l (c ∷ cs) = log_after (after_call e c) (logged e l c) cs

-- the trace and the history of a new device after them
abbrev pub claim_after : SetupView → List Call → Claim
claim_after s cs = (log_after (new_endpoint s) (new_log s) cs).claim

-- how many block requests were submitted
abbrev pub submitted_after : SetupView → List Call → ℕ
submitted_after s cs = (log_after (new_endpoint s) (new_log s) cs).submitted

-- each TLP consists of bytes
abbrev pub AreBytes : List Call → Type 0
AreBytes [] = Unit {0}
AreBytes (Take b ∷ cs) = IsBytes b × AreBytes cs
AreBytes (Act ∷ cs) = AreBytes cs
AreBytes (Reset ∷ cs) = AreBytes cs
