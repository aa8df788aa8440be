-- A device and what waits in it, as contracts see them.
use Rattle.std.specs.Prelude.{ℕ, List}
use Rattle.config_core.specs.RegistersView.{RegistersView}
use Rattle.endpoint_core.specs.declared.waiting.Waiting.{Waiting}

pub record DeviceView : Type 0 where
  pub registers : RegistersView
  -- the Completer ID: bus, device and function numbers
  pub completer : ℕ
  -- the memory
  pub bytes : List ℕ

pub record EndpointView : Type 0 where
  pub device : DeviceView
  -- non-posted requests, in the order in which they came
  pub waiting : List Waiting
