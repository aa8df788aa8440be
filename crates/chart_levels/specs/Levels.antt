-- The levels of a lane, and how a step line keeps one of them: its value at a row is the fabric's after the event of that
-- row (`step_lines_have_the_levels_of_their_rows`).
use Rattle.std.specs.Prelude.{ℕ, ◌+◌, ◌-◌, ◌%◌, ◌==◌, nat_le, max, Bool, true, false, if◌then◌else◌, List, [], ◌∷◌, ◌++◌, length, map, Option, Some, None}
use Rattle.std.specs.Result.{result_ok}
use Rattle.dllp_core.specs.declared.packet.Class.{Class}
use Rattle.dllp_core.specs.declared.packet.Class.TheVariants as classes
use Rattle.flow_control.specs.Credits.{CreditGateView, gate_of}
use Rattle.lane_core.specs.Steps.{LaneEndsView}
use Rattle.fabric_steps.specs.Fabric.{Fabric}
use Rattle.fabric_steps.specs.declared.event.LaneName.{LaneName}
use Rattle.fabric_steps.specs.declared.event.LaneName.TheVariants as lanes
use Rattle.fabric_core.specs.Answers.{lane_at}
use Rattle.chart_levels.specs.declared.level.Level.{Level}
use Rattle.chart_levels.specs.declared.level.Level.TheVariants as levels
use Rattle.chart_levels.specs.declared.step_line.Step.{Step}
use Rattle.chart_levels.specs.StepLineView.{StepLineView}

-- ---- the levels

-- the credits left: (CREDIT_LIMIT - CREDITS_CONSUMED) mod 2^8 for headers and mod 2^12 for data; a counter whose first
-- value is 0 is infinite, and has no such number
abbrev pub headers_left : CreditGateView → Class → Option ℕ
headers_left g class = if (gate_of class g).header.first == 0 then None else Some (((gate_of class g).header.limit + 256 - (gate_of class g).header.consumed) % 256)

abbrev pub data_left : CreditGateView → Class → Option ℕ
data_left g class = if (gate_of class g).units.first == 0 then None else Some (((gate_of class g).units.limit + 4096 - (gate_of class g).units.consumed) % 4096)

-- the accepted packets, the unacknowledged ones, and the credits left, as far as the sender knows
abbrev pub level_in : LaneEndsView → Level → Option ℕ
level_in e levels.Queue = Some (length e.receiver.queue)
level_in e levels.ReplayBuffer = Some (length e.sender.sending.kept)
level_in e (levels.Headers class) = headers_left e.sender.gate class
level_in e (levels.Data class) = data_left e.sender.gate class

abbrev pub level_if_any : Option LaneEndsView → Level → Option ℕ
level_if_any None level = None
level_if_any (Some e) level = level_in e level

-- of the fabric's lane
abbrev pub level_of : Fabric → LaneName → Level → Option ℕ
level_of f lane level = level_if_any (result_ok (lane_at f lane)) level

-- ---- step lines

-- the later of the two
abbrev pub later : Option Step → Step → Step
later None s = s
later (Some t) s = t

-- the last step
abbrev pub last_of : List Step → Option Step
last_of [] = None
last_of (s ∷ ss) = Some (later (last_of ss) s)

abbrev pub is_same : Option ℕ → Option ℕ → Bool
is_same (Some a) (Some b) = a == b
is_same None None = true
is_same _ _ = false

abbrev pub is_at : Option Step → Option ℕ → Bool
is_at None value = false
is_at (Some s) value = is_same s.value value

abbrev pub step_to : ℕ → Option ℕ → Step
step_to row value = record { row = row; value = value }

-- from this row on the level has this value: a step, if it had another
abbrev pub stepped : List Step → ℕ → Option ℕ → List Step
stepped steps row value = if is_at (last_of steps) value then steps else steps ++ step_to row value ∷ []

abbrev pub or_zero : Option ℕ → ℕ
or_zero None = 0
or_zero (Some value) = value

abbrev pub with_value : ℕ → Option ℕ → StepLineView → StepLineView
with_value row value l = record l { greatest = max l.greatest (or_zero value); steps = stepped l.steps row value }

-- the step line is shown the fabric after the event of that row
abbrev pub shown : ℕ → Fabric → StepLineView → StepLineView
shown row f l = with_value row (level_of f l.lane l.level) l

-- ---- the step lines of a lane, before the first row

abbrev pub new_line : LaneName → Level → StepLineView
new_line lane level = record { lane = lane; level = level; greatest = 1; steps = [] }

abbrev pub one_line : LaneName → Level → List StepLineView
one_line lane level = new_line lane level ∷ []

abbrev pub credit_lines : LaneName → Class → List StepLineView
credit_lines lane class = one_line lane (levels.Headers class) ++ one_line lane (levels.Data class)

-- of the classes that a lane carries: requests go towards the memory, and completions back; a requester's credits for
-- completions are infinite
abbrev pub class_lines : LaneName → List StepLineView
class_lines (lanes.Up port) = credit_lines (lanes.Up port) classes.Posted ++ credit_lines (lanes.Up port) classes.NonPosted
class_lines (lanes.Down port) = []
class_lines lanes.Inward = credit_lines lanes.Inward classes.Posted ++ credit_lines lanes.Inward classes.NonPosted
class_lines lanes.Outward = credit_lines lanes.Outward classes.Completion

abbrev pub lane_lines : LaneName → List StepLineView
lane_lines lane = one_line lane levels.Queue ++ (one_line lane levels.ReplayBuffer ++ class_lines lane)

-- ---- the value at a row

abbrev pub or_value : Option (Option ℕ) → Option (Option ℕ) → Option (Option ℕ)
or_value (Some value) other = Some value
or_value None other = other

-- that of the last step that isn't below the row; before the first step there is none
abbrev pub value_at : List Step → ℕ → Option (Option ℕ)
value_at [] row = None
value_at (s ∷ ss) row = or_value (value_at ss row) (if nat_le s.row row then Some s.value else None)

-- the step line is shown a fabric after the event of each row, from this row on
abbrev pub shown_from : ℕ → List Fabric → StepLineView → StepLineView
shown_from row [] l = l
shown_from row (f ∷ fs) l = shown_from (row + 1) fs (shown row f l)
