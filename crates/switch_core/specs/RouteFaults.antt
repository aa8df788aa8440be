-- The number and the name under which a fault is told.
use Rattle.std.specs.Prelude.{ℕ, List, codes}
use Rattle.switch_core.specs.declared.route_fault.RouteFault.{RouteFault}
use Rattle.switch_core.specs.declared.route_fault.RouteFault.TheVariants as routes

abbrev pub fault_number : RouteFault → ℕ
fault_number routes.NoPort = 1

abbrev pub fault_name : RouteFault → List ℕ
fault_name routes.NoPort = codes "NoPort"
