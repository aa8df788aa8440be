-- The trace and the history of an endpoint behind its link.
use Rattle.std.specs.Prelude.{List}
use Rattle.flow_control.specs.declared.limits.LaneCredits.{LaneCredits}
use Rattle.history_words.specs.Claim.{Claim}
use Rattle.config_core.specs.SetupView.{SetupView}
use Rattle.endpoint_log.specs.Steps.{new_log}
use Rattle.linked_endpoint.specs.Linked.{new_linked}
use Rattle.linked_endpoint.specs.Runs.{Call}
use Rattle.linked_endpoint.specs.Settling.{logged_all}

-- of a new one, after these calls
abbrev pub claim_after : SetupView → LaneCredits → List Call → Claim
claim_after s ours calls = (logged_all (new_linked s ours) calls (new_log s)).claim
