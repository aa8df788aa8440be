-- When a state is lost, and when a request may act at once.
use Rattle.std.specs.Prelude.{ℕ, ◌≡◌, ◌+◌, ◌<◌, ◌≤◌, ◌⊎◌, List, [], ◌∷◌, length, slice_get, slice_index, Option, Some, None, true, false}
use Rattle.tlp_core.specs.Ops.{Op}
use Rattle.seq_memory.specs.Entries.{Reply}
use Rattle.seq_memory.specs.Limits.{Extent}
use Rattle.tlp_core.specs.Operation.{address_of, count_of, is_posted}
use Rattle.search_effects.specs.Effects.{AreApart, AreSameAt}
use Rattle.log_runs.specs.EventView.{EventView}
use Rattle.log_runs.specs.EventView as events
use Rattle.log_runs.specs.LogView.{LogView}
use Rattle.log_runs.specs.declared.Step.{Step}
use Rattle.log_runs.specs.declared.Step.TheVariants as steps
use Rattle.log_runs.specs.Runs.{State, MayAct, Leads, reply_of, acted_on}
use Rattle.search_rules.specs.Junk.{Touches, word, HasAddresses, IsJunk, LeavesJunk}

-- the memory answers what was answered, if anything was
abbrev pub Answers : Extent → List ℕ → Op → Option Reply → Type 0
Answers x m op told = (r : Reply) → told ≡ Some r → reply_of x m op ≡ r

-- the memory answers what the request at the event was answered, if it was
abbrev pub Suits : Extent → List ℕ → Option EventView → Type 0
Suits x m (Some (events.Sub i op told)) = Answers x m op told
Suits x m (Some (events.Due b)) = Unit {0}
Suits x m (Some events.Free) = Unit {0}
Suits x m None = Unit {0}

-- right after request b acted the memory suits request q only if it did before
abbrev pub NeverBrings : LogView → ℕ → ℕ → Type 0
NeverBrings log b q =
    (m : List ℕ) → Suits log.extent m (slice_get log.events b) → Suits log.extent (acted_on log.extent m (slice_get log.events b)) (slice_get log.events q)
    → Suits log.extent m (slice_get log.events q)

-- from m the second isn't suited after the first, n being the bytes that this leaves, or their order makes no difference
abbrev pub Ends : Extent → List ℕ → List ℕ → Option EventView → Option EventView → Type 0
Ends x m n one other =
    (Suits x n other → ⊥) ⊎ (Suits x n other × Suits x (acted_on x m other) one × (acted_on x n other ≡ acted_on x (acted_on x m other) one))

-- where the memory suits both, it doesn't suit q right after b, or their order makes no difference
abbrev pub Yields : LogView → ℕ → ℕ → Type 0
Yields log b q =
    (m : List ℕ) → Suits log.extent m (slice_get log.events b) → Suits log.extent m (slice_get log.events q)
    → Ends log.extent m (acted_on log.extent m (slice_get log.events b)) (slice_get log.events b) (slice_get log.events q)

-- P holds of each other request that hasn't acted and is submitted before place a
abbrev pub AllOthers : State → ℕ → ℕ → (ℕ → Type 0) → Type 0
AllOthers s q a P = (b : ℕ) → b < a → (q ≡ b → ⊥) → slice_get s.acted b ≡ Some false → P b

-- request q, which is due at place a, doesn't find what it needs, and nobody brings it before
pub record IsLost (log : LogView) (s : State) (q a : ℕ) : Type 0 where
  pub due : slice_get log.events a ≡ Some (events.Due q)
  pub since : s.event ≤ a
  pub left : slice_get s.acted q ≡ Some false
  pub gone : Suits log.extent s.bytes (slice_get log.events q) → ⊥
  pub nobody : AllOthers s q a (λ b. NeverBrings log b q)

-- right after request b acted byte k is v only if it was before
abbrev pub NeverPuts : LogView → ℕ → ℕ → ℕ → Type 0
NeverPuts log b k v =
    (m : List ℕ) → Suits log.extent m (slice_get log.events b) → slice_index (acted_on log.extent m (slice_get log.events b)) k ≡ v → slice_index m k ≡ v

-- where the memory suits request q, byte k is v
abbrev pub NeedsByte : LogView → ℕ → ℕ → ℕ → Type 0
NeedsByte log q k v = (m : List ℕ) → Suits log.extent m (slice_get log.events q) → slice_index m k ≡ v

-- byte k isn't in the operation's range
abbrev pub IsOutside : Extent → Op → ℕ → Type 0
IsOutside x op k = (x.base + k < address_of op) ⊎ (address_of op + count_of op ≤ x.base + k)

-- request q, which is due at place a, needs byte k to be v, which it isn't, and nobody puts it before
pub record LacksByte (log : LogView) (s : State) (q a k v : ℕ) : Type 0 where
  pub due : slice_get log.events a ≡ Some (events.Due q)
  pub since : s.event ≤ a
  pub left : slice_get s.acted q ≡ Some false
  pub needs : NeedsByte log q k v
  pub gone : slice_index s.bytes k ≡ v → ⊥
  pub nobody : AllOthers s q a (λ b. NeverPuts log b k v)

-- request q, which is due at place a, may act, and nobody who acts before it can bring what it needs once more, nor needs it
pub record IsLast (log : LogView) (s : State) (q a : ℕ) : Type 0 where
  pub due : slice_get log.events a ≡ Some (events.Due q)
  pub since : s.event ≤ a
  pub may : MayAct log s q
  pub nobody : AllOthers s q a (λ b. NeverBrings log b q × Yields log b q)

-- the operations of two submissions have no address in common
abbrev pub AreApartThere : LogView → ℕ → ℕ → Type 0
AreApartThere log b q =
    (i j : ℕ) (one other : Op) (told asked : Option Reply) → slice_get log.events b ≡ Some (events.Sub i one told) → slice_get log.events q ≡ Some (events.Sub j other asked)
    → AreApart one other

-- the bytes at the addresses of request q are the same
abbrev pub AreSameFor : LogView → ℕ → List ℕ → List ℕ → Type 0
AreSameFor log q m n =
    (j : ℕ) (other : Op) (asked : Option Reply) → slice_get log.events q ≡ Some (events.Sub j other asked) → AreSameAt log.extent.base other m n

-- while the bytes at the addresses of request q are as in m, the memory doesn't suit request b
abbrev pub Waits : LogView → List ℕ → ℕ → ℕ → Type 0
Waits log m b q = (n : List ℕ) → AreSameFor log q m n → Suits log.extent n (slice_get log.events b) → ⊥

-- request r is q, or its requester submitted q before it, a posted write
abbrev pub Follows : LogView → ℕ → ℕ → Type 0
Follows log q r =
    (q ≡ r) ⊎ ((i : ℕ) × (w : Op) × (op : Op) × (asked : Option Reply) × (told : Option Reply) × (q < r) × (is_posted w ≡ true)
    × (slice_get log.events q ≡ Some (events.Sub i w asked)) × (slice_get log.events r ≡ Some (events.Sub i op told)))

-- request b has no byte of request q, or can't act before q: the bytes there aren't what it needs, or q is an earlier posted
-- write of its requester
abbrev pub LetsFirst : LogView → List ℕ → ℕ → ℕ → Type 0
LetsFirst log m b q = AreApartThere log b q ⊎ Waits log m b q ⊎ Follows log q b

-- request q may act, and must before place a, where r is due; till then it is the first that can of those that have bytes of it
pub record IsFirst (log : LogView) (s : State) (q r a : ℕ) : Type 0 where
  pub due : slice_get log.events a ≡ Some (events.Due r)
  pub since : s.event ≤ a
  pub follows : Follows log q r
  pub left : slice_get s.acted r ≡ Some false
  pub may : MayAct log s q
  pub others : AllOthers s q a (λ b. LetsFirst log s.bytes b q)

-- wherever a memory of the log's size suits the request, it changes nothing
abbrev pub ChangesNothing : LogView → ℕ → Type 0
ChangesNothing log b =
    (m : List ℕ) → length m ≡ log.extent.size → Suits log.extent m (slice_get log.events b) → acted_on log.extent m (slice_get log.events b) ≡ m

-- no memory of the log's size suits the request
abbrev pub NeverSuits : LogView → ℕ → Type 0
NeverSuits log b = (m : List ℕ) → length m ≡ log.extent.size → Suits log.extent m (slice_get log.events b) → ⊥

-- the addresses of request g are among those of request q
abbrev pub IsWithin : LogView → ℕ → ℕ → Type 0
IsWithin log g q =
    (i j : ℕ) (third other : Op) (had asked : Option Reply) → slice_get log.events g ≡ Some (events.Sub i third had) → slice_get log.events q ≡ Some (events.Sub j other asked)
    → HasAddresses other third

-- request b names bytes of word w
abbrev pub Names : LogView → ℕ → ℕ → Type 0
Names log b w = (i : ℕ) × (op : Op) × (told : Option Reply) × (slice_get log.events b ≡ Some (events.Sub i op told)) × Touches log.extent.base op w

-- what stands at word w in m is nothing to request b
abbrev pub IsJunkAt : LogView → List ℕ → ℕ → ℕ → Type 0
IsJunkAt log m b w =
    (i : ℕ) (one : Op) (told : Option Reply) → slice_get log.events b ≡ Some (events.Sub i one told) → IsJunk log.extent m one told (word log.extent w)

-- what request g leaves at word w is nothing to request b
abbrev pub LeavesJunkAt : LogView → ℕ → ℕ → ℕ → Type 0
LeavesJunkAt log b g w =
    (i l : ℕ) (one third : Op) (told had : Option Reply) → slice_get log.events b ≡ Some (events.Sub i one told) → slice_get log.events g ≡ Some (events.Sub l third had)
    → LeavesJunk log.extent one told (word log.extent w) third had

-- the requests act in turn
abbrev pub acts : List ℕ → List Step
acts [] = []
acts (b ∷ bs) = steps.Act b ∷ acts bs

-- P holds of each request that is left
abbrev pub AllLeft : State → (ℕ → Type 0) → Type 0
AllLeft s P = (b : ℕ) → slice_get s.acted b ≡ Some false → P b

-- request g changes nothing; or its addresses are among those of request q, and what it leaves at each of its words is nothing
-- to any that is left in s
abbrev pub LeavesNothing : LogView → State → ℕ → ℕ → Type 0
LeavesNothing log s q g = ChangesNothing log g ⊎ (IsWithin log g q × ((w : ℕ) → Names log g w → AllLeft s (λ b. LeavesJunkAt log b g w)))

-- request q and then the group may act in turn; to any that is left then it is nothing what stands at each word of q, and what
-- each of them leaves at its words
pub record IsOverJunk (log : LogView) (s : State) (q : ℕ) (group : List ℕ) : Type 0 where
  pub last : State
  pub size : length s.bytes ≡ log.extent.size
  pub leads : Leads log s (acts (q ∷ group)) last
  pub old : (w : ℕ) → Names log q w → AllLeft last (λ b. IsJunkAt log s.bytes b w)
  pub new : (i g : ℕ) → slice_get (q ∷ group) i ≡ Some g → LeavesNothing log last q g
