-- What is recorded of a device, until memory for a record runs out.
use Rattle.std.specs.Prelude.{ℕ, ◌≡◌, ◌⊎◌, Bool, if◌then◌else◌, List, Option, Some, None}
use Rattle.config_core.specs.SetupView.{SetupView}
use Rattle.endpoint_core.specs.EndpointView.{EndpointView}
use Rattle.endpoint_core.specs.Classes.{becomes}
use Rattle.endpoint_log.specs.LogView.{LogView}
use Rattle.endpoint_log.specs.Steps as log
use Rattle.endpoint_log.specs.declared.recording.Recording.{Recording}
use Rattle.endpoint_log.specs.declared.recording.Recording.TheVariants.{Off, On, Lost}

abbrev pub new_recording : SetupView → Bool → Recording
new_recording s is_traced = if is_traced then On (log.new_log s) else Off s

-- what is recorded, if something is
abbrev pub noted : (LogView → LogView) → Recording → Recording
noted f (Off s) = Off s
noted f (On l) = On (f l)
noted f Lost = Lost

-- a TLP of these bytes comes to the device
abbrev pub came : EndpointView → List ℕ → Recording → Recording
came e tlp r = noted (log.came e.device (becomes tlp)) r

-- the oldest request of the device acts, and is answered
abbrev pub acted : EndpointView → Recording → Recording
acted e r = noted (log.acted e) r

-- this is recorded, or memory for it ran out
abbrev pub IsOrLost : Recording → Recording → Type 0
IsOrLost new (Off s) = new ≡ Off s
IsOrLost new (On l) = (new ≡ On l) ⊎ (new ≡ Lost)
IsOrLost new Lost = new ≡ Lost

-- the oldest request of the device acts, and its block request has that number
abbrev pub IsEntered : EndpointView → Recording → Recording → Option ℕ → Type 0
IsEntered e (Off s) new number = new ≡ Off s
IsEntered e (On l) new number = ((new ≡ On (log.entered e l)) × (number ≡ log.number_entered e l)) ⊎ (new ≡ Lost)
IsEntered e Lost new number = new ≡ Lost

-- what waited is dropped
abbrev pub dropped : Recording → Recording
dropped r = noted log.dropped r

-- what was recorded
abbrev pub log_of : Recording → Option LogView
log_of (Off s) = None
log_of (On l) = Some l
log_of Lost = None
