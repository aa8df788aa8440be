-- A device and its end of a link, as contracts see them.
use Rattle.std.specs.Prelude.{List, Option}
use Rattle.tlp_core.specs.TlpView.{TlpView}
use Rattle.flow_control.specs.declared.needs.Need.{Need}
use Rattle.port_core.specs.Port.{PortView}
use Rattle.endpoint_core.specs.EndpointView.{EndpointView}

pub record LinkedView : Type 0 where
  pub port : PortView
  pub endpoint : EndpointView
  -- what the requests that wait take of the credits, oldest first; none for bytes without a class
  pub needs : List (Option Need)
  -- the completion of what acted last, until it enters the replay buffer
  pub held : Option TlpView
