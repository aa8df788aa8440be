-- What the value of an option writes that names a lane.
use Rattle.std.specs.Prelude.{◌≡◌, List, ℕ, Option, Some, None}
use Rattle.fabric_steps.specs.declared.event.LaneName.{LaneName}
use Rattle.script_text.specs.Forms.{lane}

-- a lane, by the name that scripts have for it; none where no value is given
abbrev pub WritesLane : Option (List ℕ) → Option LaneName → Type 0
WritesLane None l = l ≡ None
WritesLane (Some text) l = (name : LaneName) × (lane text ≡ Some name) × (l ≡ Some name)
