use Rattle.linked_laws.proofs.Served.{nothing_waits, nothing_held}
use Rattle.linked_laws.proofs.a_device_that_is_served_completes_all.Goals as goal

pub returns : goal.returns
returns c = record { waiting = nothing_waits; held = nothing_held }
