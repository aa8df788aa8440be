-- Runs through a log: records are passed in their order, and requests act between them.
use Rattle.std.specs.Prelude.{ℕ, ◌≡◌, ◌+◌, ◌<◌, List, [], ◌∷◌, length, replicate, slice_get, slice_set, Option, Some, None, Bool, true, false}
use Rattle.std.specs.List.{All}
use Rattle.tlp_core.specs.Ops.{Op}
use Rattle.tlp_core.specs.Operation.{is_posted}
use Rattle.seq_memory.specs.Entries.{Reply}
use Rattle.seq_memory.specs.Limits.{Extent}
use Rattle.seq_memory.specs.Step.{after, answer}
use Rattle.log_runs.specs.EventView.{EventView}
use Rattle.log_runs.specs.EventView as events
use Rattle.log_runs.specs.declared.Step.{Step}
use Rattle.log_runs.specs.declared.Step.TheVariants as steps
use Rattle.log_runs.specs.LogView.{LogView}

-- what the sequential memory answers, and its bytes afterwards
unfoldable pub reply_of : Extent → List ℕ → Op → Reply
reply_of x m op = answer x.base x.block m op

unfoldable pub bytes_after : Extent → List ℕ → Op → List ℕ
bytes_after x m op = after x.base x.block m op

-- the bytes after the request at the event acted
unfoldable pub acted_on : Extent → List ℕ → Option EventView → List ℕ
acted_on x m (Some (events.Sub i op told)) = bytes_after x m op
acted_on x m (Some (events.Due b)) = m
acted_on x m (Some events.Free) = m
acted_on x m None = m

-- how many records were passed, which requests have acted, by place, and the bytes of the memory
pub record State : Type 0 where
  pub event : ℕ
  pub acted : List Bool
  pub bytes : List ℕ

abbrev pub start : LogView → State
start log = record { event = 0; acted = replicate (length log.events) false; bytes = replicate log.extent.size 0 }

abbrev pub has_acted : State → ℕ → Type 0
has_acted s b = slice_get s.acted b ≡ Some true

-- an answer is passed only after its request has acted
abbrev pub MayPass : State → Option EventView → Type 0
MayPass s (Some (events.Sub i op told)) = Unit {0}
MayPass s (Some (events.Due b)) = has_acted s b
MayPass s (Some events.Free) = Unit {0}
MayPass s None = ⊥

-- a request acts once, after its submission was passed, after the posted writes that its requester submitted before it, and
-- where the memory answers what it was answered
pub record MayAct (log : LogView) (s : State) (b : ℕ) : Type 0 where
  pub requester : ℕ
  pub op : Op
  pub told : Option Reply
  pub submitted : slice_get log.events b ≡ Some (events.Sub requester op told)
  pub since : b < s.event
  pub once : slice_get s.acted b ≡ Some false
  pub ordered : (c : ℕ) (w : Op) (r : Option Reply) → c < b → slice_get log.events c ≡ Some (events.Sub requester w r) → is_posted w ≡ true → has_acted s c
  pub replied : (r : Reply) → told ≡ Some r → reply_of log.extent s.bytes op ≡ r

abbrev pub Allowed : LogView → State → Step → Type 0
Allowed log s steps.Pass = MayPass s (slice_get log.events s.event)
Allowed log s (steps.Act b) = MayAct log s b

abbrev pub next : LogView → State → Step → State
next log s steps.Pass = record { event = s.event + 1; acted = s.acted; bytes = s.bytes }
next log s (steps.Act b) = record {
  event = s.event;
  acted = slice_set s.acted b true;
  bytes = acted_on log.extent s.bytes (slice_get log.events b);
}

-- the steps lead from s to t
abbrev pub Leads : LogView → State → List Step → State → Type 0
Leads log s [] t = s ≡ t
Leads log s (x ∷ xs) t = Allowed log s x × Leads log (next log s x) xs t

-- steps lead from s to the end
pub record Live (log : LogView) (s : State) : Type 0 where
  pub steps : List Step
  pub last : State
  pub leads : Leads log s steps last
  pub over : last.event ≡ length log.events

abbrev pub Dead : LogView → State → Type 0
Dead log s = Live log s → ⊥

-- each of the steps that may be taken leads to a dead state
abbrev pub AllDead : LogView → State → List Step → Type 0
AllDead log s xs = All (λ x. Allowed log s x → Dead log (next log s x)) xs

-- if no step of the list leads to the end, nothing does
abbrev pub Covers : LogView → State → List Step → Type 0
Covers log s xs = AllDead log s xs → Dead log s

-- the step may be taken at once
pub record IsForced (log : LogView) (s : State) (x : Step) : Type 0 where
  pub allowed : Allowed log s x
  pub live : Live log s → Live log (next log s x)
