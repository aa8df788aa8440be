-- What a device and its link did, and what is recorded of it, if that isn't lost.
use Rattle.std.proofs.Common.{◌≡◌, Bool, List, option_map}
use Rattle.endpoint_log.specs.LogView.{LogView}
use Rattle.endpoint_log.specs.declared.recording.Recording.{Recording}
use Rattle.endpoint_log.specs.Recordings.{noted, IsOrLost, log_of}
use Rattle.linked_endpoint.specs.LinkedView.{LinkedView}
use Rattle.linked_endpoint.specs.Runs.{Call, after_calls}
use Rattle.linked_endpoint.specs.Settling.{logged_all}
use Rattle.linked_engine.specs.Lines.{LinkLines, did}

abbrev pub IsWhole : Recording → Type 0
IsWhole s = (f : LogView → LogView) (r : Recording) → IsOrLost s (noted f r) → log_of s ≡ option_map f (log_of r)

abbrev pub lines : LinkedView → Recording → Bool → LinkLines
lines l r has_crc = record { linked = l; log = log_of r; has_crc = has_crc }

pub did_lines : (old new : LinkedView) (r s : Recording) (has_crc : Bool) (calls : List Call) → new ≡ after_calls old calls → IsOrLost s (noted (logged_all old calls) r) → IsWhole s → lines new s has_crc ≡ did (lines old r has_crc) calls
did_lines old new r s has_crc calls e told whole = λ j. record { linked = e j; log = whole (logged_all old calls) r told j; has_crc = has_crc }
