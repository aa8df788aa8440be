-- What a list of events leads to.
use Rattle.std.specs.Prelude.{◌≡◌, List, fold}
use Rattle.fabric_steps.specs.Fabric.{Fabric}
use Rattle.fabric_core.specs.Answers.{Happens}
use Rattle.fabric_settle.specs.Happenings.{Happening, Leads}

-- the events happen in turn to the fabric and leave the other, and a witness that loses nothing has kept what is to be
-- kept of them
pub record Reached {K : Type 0} (saw : K → Happening → K) (lossless : Type 0) (f : Fabric) (k : K) (f' : Fabric) (k' : K) : Type 0 where
  pub happened : List Happening
  pub led : Leads Happens f happened f'
  pub now : lossless → k' ≡ fold saw k happened
