-- The registers that change, and what the device is made with.
use Rattle.std.specs.Prelude.{ℕ}
use Rattle.config_core.specs.SetupView.{SetupView}

pub record RegistersView : Type 0 where
  pub setup : SetupView
  -- Command and Status
  pub command : ℕ
  -- Cache Line Size
  pub cache_line : ℕ
  -- BAR 0 and its upper half
  pub bar_low : ℕ
  pub bar_high : ℕ
  -- Interrupt Line
  pub interrupt : ℕ
  -- PMCSR
  pub power : ℕ
  -- Device Control and Device Status
  pub device : ℕ
  -- Link Control and Link Status
  pub link : ℕ
