-- A line that is told, and its beginning.
use Rattle.std.proofs.Common.{◌≡◌, ℕ, List, Option, Result, Ok, Err, OnOk, OnErr}
use Rattle.std.specs.Prelude.{IfErr}
use Rattle.diagnostics.specs.Told.{IsPartTold, IsPartBegun}
use Rattle.diagnostics.specs.declared.telling.Part.{Part}
use Rattle.line_loop.specs.declared.fault.EngineFault.{EngineFault}
use Rattle.line_loop.specs.declared.fault.EngineFault.TheVariants as faults

pub told_somewhere : {T : Type 0} (r : Result T EngineFault) (p : Part) (n : ℕ) (old new : Option (List ℕ)) → OnOk r (IsPartTold p n old new) → OnOk r ((line : ℕ) × IsPartTold p line old new)
told_somewhere (Ok x) p n old new told = (n, told)
told_somewhere (Err f) p n old new told = tt

pub begun_somewhere : {T : Type 0} (r : Result T EngineFault) (p : Part) (n : ℕ) (old new : Option (List ℕ)) → OnErr r (IsPartBegun p n old new)
    → IfErr r (λ f. f ≡ faults.Write → (line : ℕ) × IsPartBegun p line old new)
begun_somewhere (Ok x) p n old new begun = tt
begun_somewhere (Err f) p n old new begun = λ e. (n, begun)
