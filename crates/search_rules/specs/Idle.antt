-- Requests that weren't answered and needn't act.
use Rattle.std.specs.Prelude.{ℕ, ◌≡◌, ◌≤◌, ◌⊎◌, List, length, slice_get, Option, Some, None, true, false}
use Rattle.tlp_core.specs.Ops.{Op}
use Rattle.tlp_core.specs.Operation.{is_posted}
use Rattle.seq_memory.specs.Entries.{Reply}
use Rattle.seq_memory.specs.Limits.{Extent}
use Rattle.seq_memory.specs.Step.{after}
use Rattle.search_effects.specs.Effects.{Agrees, AreSameAt}
use Rattle.log_runs.specs.EventView.{EventView}
use Rattle.log_runs.specs.EventView as events
use Rattle.log_runs.specs.LogView.{LogView}
use Rattle.log_runs.specs.declared.Step.{Step}
use Rattle.log_runs.specs.declared.Step.TheVariants as steps
use Rattle.log_runs.specs.Runs.{State, Live, next, acted_on}
use Rattle.search_rules.specs.Junk.{IsJunk, LeavesJunk}
use Rattle.search_rules.specs.Rules.{AllOthers}

-- request b wasn't answered, isn't posted, and no answer to it comes from that event on
pub record IsUndue (log : LogView) (from b : ℕ) : Type 0 where
  pub requester : ℕ
  pub op : Op
  pub submitted : slice_get log.events b ≡ Some (events.Sub requester op None)
  pub unposted : is_posted op ≡ false
  pub never : (a : ℕ) → from ≤ a → slice_get log.events a ≡ Some (events.Due b) → ⊥

-- t is as s, but for requests to which no answer comes: more of them have acted
pub record HasMore (log : LogView) (s t : State) : Type 0 where
  pub event : t.event ≡ s.event
  pub bytes : t.bytes ≡ s.bytes
  pub acted : (b : ℕ) → (slice_get t.acted b ≡ slice_get s.acted b) ⊎ ((slice_get s.acted b ≡ Some false) × (slice_get t.acted b ≡ Some true) × IsUndue log s.event b)

-- the request at the event changes nothing while the bytes at the operation's addresses are as in m
abbrev pub RestsThere : Extent → List ℕ → Op → Option EventView → Type 0
RestsThere x m other o = (n : List ℕ) → length n ≡ x.size → AreSameAt x.base other m n → acted_on x n o ≡ n

-- what the operation leaves at its addresses, where it is answered so, is nothing to request q
abbrev pub IsJunkBehind : LogView → Op → Reply → ℕ → Type 0
IsJunkBehind log third made q =
    (i : ℕ) (one : Op) (told : Option Reply) → slice_get log.events q ≡ Some (events.Sub i one told) → LeavesJunk log.extent one told third third (Some made)

-- the request at the event changes nothing while the bytes at the operation's addresses are as that leaves them, where it is
-- answered so
abbrev pub RestsBehind : Extent → Op → Reply → Option EventView → Type 0
RestsBehind x third made o =
    (k n : List ℕ) → length k ≡ x.size → Agrees x.base x.block k third (Some made) → AreSameAt x.base third (after x.base x.block k third) n → acted_on x n o ≡ n

-- what stands at the operation's addresses in m, at all of them, is nothing to request q; or no answer to that comes, and it
-- changes nothing there
abbrev pub PassesOver : LogView → ℕ → List ℕ → Op → ℕ → Type 0
PassesOver log from m other q =
    ((i : ℕ) (one : Op) (told : Option Reply) → slice_get log.events q ≡ Some (events.Sub i one told) → IsJunk log.extent m one told other)
    ⊎ (IsUndue log from q × RestsThere log.extent m other (slice_get log.events q))

-- no answer to request b comes, and it changes nothing here, or leaves what each other that is pending passes over
pub record IsIdle (log : LogView) (s : State) (b : ℕ) : Type 0 where
  pub undue : IsUndue log s.event b
  pub size : length s.bytes ≡ log.extent.size
  pub others : (acted_on log.extent s.bytes (slice_get log.events b) ≡ s.bytes)
      ⊎ AllOthers s b s.event (PassesOver log s.event (acted_on log.extent s.bytes (slice_get log.events b)) undue.op)

-- if a run leads on after the step, G holds; or it lets a request act that is idle
abbrev pub GoesOrIdles : LogView → State → Type 0 → Step → Type 0
GoesOrIdles log s G x = (Live log (next log s x) → G) ⊎ ((b : ℕ) × (x ≡ steps.Act b) × IsIdle log s b)
