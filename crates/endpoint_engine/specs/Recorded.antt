-- A device that was asked something, and what is recorded of it.
use Rattle.std.specs.Prelude.{◌≡◌, ◌^◌, ◌<◌, List, length}
use Rattle.config_core.specs.SetupView.{SetupView}
use Rattle.endpoint_core.specs.EndpointView.{EndpointView}
use Rattle.endpoint_core.specs.Steps.{new_endpoint}
use Rattle.endpoint_core.specs.Runs.{Call, after_calls}
use Rattle.endpoint_log.specs.LogView.{LogView}
use Rattle.endpoint_log.specs.Steps.{new_log}
use Rattle.endpoint_laws.specs.Runs.{log_after, AreBytes}

-- there are calls that lead a new device there, and what is recorded is what is recorded of them
pub record IsRecorded (s : SetupView) (e : EndpointView) (l : LogView) : Type 0 where
  pub calls : List Call
  pub bytes : AreBytes calls
  pub endpoint : e ≡ after_calls (new_endpoint s) calls
  pub log : l ≡ log_after (new_endpoint s) (new_log s) calls

-- no more than a log counts: block requests that were submitted in 32 bits, those that acted in 64
abbrev pub IsCounted : LogView → Type 0
IsCounted l = (l.submitted < 2 ^ 32) × (length l.claim.memory.entries < 2 ^ 64)
