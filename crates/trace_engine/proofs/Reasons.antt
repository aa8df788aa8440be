-- What is known of the first fault.
use Rattle.std.proofs.Common.{◌≡◌, ℕ, refl, Option, Some, None}
use Rattle.trace_diagnostics.specs.Told.{first_of}

pub stays_known : (known : Option ℕ) → known ≡ first_of known None
stays_known None = refl
stays_known (Some n) = refl
