-- The rule at the fabric.
use Rattle.std.specs.Prelude.{◌≡◌, ◌≢◌, if◌then◌else◌, ℕ, zero, suc, ◌<◌, ◌≤◌, List, [], ◌∷◌, ◌++◌, map, length, drop, slice_get, slice_set, Option, Some}
use Rattle.atomic_table.specs.Table as table
use Rattle.tlp_core.specs.Operation.{is_posted}
use Rattle.seq_memory.specs.Entries.{Entry}
use Rattle.seq_memory.specs.Limits.{Extent}
use Rattle.history_words.specs.Records.{Record}
use Rattle.history_words.specs.declared.record.RecordOf.TheVariants.{Sub, Ans}
use Rattle.history_words.specs.Trace.{submissions}
use Rattle.fabric_steps.specs.Lists.{Each}
use Rattle.fabric_steps.specs.Fabric.{Fabric, whole_of}
use Rattle.fabric_steps.specs.Trace.{Belongs, moment}
use Rattle.fabric_core.specs.declared.config.Config.{Config}
use Rattle.fabric_steps.specs.Event.{Event, Seen}
use Rattle.fabric_steps.specs.declared.event.EventOf.TheVariants as events
use Rattle.fabric_steps.specs.declared.event.SeenOf.TheVariants as seen
use Rattle.fabric_core.specs.Kept.{IsSoundFabric, records_of}
use Rattle.fabric_core.specs.Answers.{Happens}
use Rattle.hall_laws.specs.declared.part.PartValue.{PartValue}
use Rattle.hall_laws.specs.declared.part.PartValue.TheVariants.{Memory}
use Rattle.hall_laws.specs.declared.token.Token.{Token}
use Rattle.hall_laws.specs.declared.token.Start.{Start}
use Rattle.hall_laws.specs.declared.token.Knowledge.{Knowledge}
use Rattle.hall_laws.specs.Parts.{parts_of}
use Rattle.hall_laws.specs.Story.{Act, Tells, done_by}
use Rattle.hall_laws.specs.Waiting.{requester_in, without, waiting, records_by}
use Rattle.hall_laws.specs.Standing as hall

-- the number of seats, the fabric that the hall was made of, all that happened since, the fabric that it led to, and the
-- records of all that was submitted and collected
pub record Traced : Type 0 where
  pub seats : ℕ
  pub opened : Fabric
  pub acts : List Act
  pub fabric : Fabric
  pub records : List Record

abbrev pub parts : Traced → List PartValue
parts s = parts_of s.fabric

-- the fabric is sound, the trace belongs to it, and the acts, each of one of the seats, lead to it with these records
pub record IsSoundTraced (s : Traced) : Type 0 where
  pub sound : IsSoundFabric s.fabric
  pub belongs : Belongs (whole_of s.fabric) s.records
  pub tells : Tells s.opened s.acts s.records s.fabric
  pub by : Each (λ (a : Act). a.by < s.seats) s.acts

-- xs begins ys
abbrev pub Begins : {X : Type 0} → List X → List X → Type 0
Begins {X} xs ys = (zs : List X) × (ys ≡ xs ++ zs)

-- where the memory of such a fabric lies
abbrev pub extent_for : Config → Extent
extent_for c = record { base = c.base; size = c.size; block = c.block }

pub record HasConfig (f : Fabric) (c : Config) : Type 0 where
  pub requesters : length f.requesters ≡ c.requesters
  pub base : f.memory.base ≡ c.base
  pub size : f.memory.size ≡ c.size
  pub block : f.memory.block ≡ c.block
  pub credits : f.credits ≡ c.credits

-- What a seat knows is true of the fabric and its trace. The seat with the number n has the records of the requester n
-- + 1
pub record Fits (s : Traced) (w : Knowledge) : Type 0 where
  pub config : HasConfig s.fabric w.config
  pub opened : w.opened ≡ s.opened
  pub seats : w.seats ≡ s.seats
  pub seat : w.number < w.seats
  pub seen : Begins w.seen s.fabric.memory.entries
  -- what it submitted, and what it waits for
  pub made : w.made ≡ submissions s.records (suc w.number)
  pub pending : w.pending ≡ waiting s.records (suc w.number)
  -- the records of both
  pub records : w.records ≡ records_by (suc w.number) s.records
  -- it has seen the history of all its submissions and answers
  pub told : (a : ℕ) (r : Record) → slice_get s.records a ≡ Some r → requester_in r ≡ suc w.number → moment r ≤ length w.seen
  pub served : Each (λ (n : ℕ). n < length s.fabric.memory.entries) w.served
  -- its calls are those with its number, in their order
  pub did : w.did ≡ done_by w.number s.acts

-- a seat at the start
abbrev pub newcomer : Config → Fabric → ℕ → ℕ → Token
newcomer c f seats n = record { knows = record { number = n; config = c; opened = f; seats = seats; seen = []; made = []; pending = []; records = []; served = []; did = [] }; held = [] }

-- the tokens of so many of the seats, from the number n on
abbrev pub newcomers : Config → Fabric → ℕ → ℕ → ℕ → List Token
newcomers c f seats n zero = []
newcomers c f seats n (suc count) = newcomer c f seats n ∷ newcomers c f seats (suc n) count

abbrev pub Kept : Start → hall.Table → Type 0
Kept key = hall.Standing parts IsSoundTraced Fits

abbrev pub Known : List Token → Type 0
Known = hall.Known parts IsSoundTraced Fits

abbrev pub taken : table.Step (Option PartValue) → hall.Sat → ℕ → hall.Sat → Type 0
taken = hall.taken parts IsSoundTraced Fits

abbrev pub released : List Token → table.Step (Option PartValue) → hall.Sat → ℕ → hall.Sat → Type 0
released = hall.released parts IsSoundTraced Fits

abbrev pub Releases : List Token → ℕ → PartValue → List Token → Type 0
Releases = hall.Releases parts IsSoundTraced Fits

abbrev pub Agrees : Traced → hall.Values → Type 0
Agrees = hall.Agrees parts IsSoundTraced Fits

-- the token without the part that it took last
abbrev pub dropped : Token → Token
dropped t = record t { held = drop 1 t.held }

abbrev pub dropped_first : List Token → List Token
dropped_first [] = []
dropped_first (t ∷ ts) = dropped t ∷ ts

abbrev pub having_seen : List Entry → Token → Token
having_seen h t = record t { knows = record t.knows { seen = h } }

-- the first token without the part that it took last; all have seen this history
abbrev pub dropped_seen : List Entry → List Token → List Token
dropped_seen h ts = map (having_seen h) (dropped_first ts)

abbrev pub history_in : PartValue → List Entry
history_in (Memory m) = m.entries
history_in _ = []

-- the parts, with these values at these places
abbrev pub write : List PartValue → hall.Values → List PartValue
write l [] = l
write l (kv ∷ h) = slice_set (write l h) kv.0 kv.1

-- no place stands twice
abbrev pub Apart : hall.Values → Type 0
Apart [] = Unit {0}
Apart (kv ∷ h) = hall.Outside kv.0 h × Apart h

-- what the seat of an event knows after it, h being the history before it
abbrev pub learned : Event → Seen → List Entry → Knowledge → Knowledge
learned (events.Submit port op) (seen.Submitted k) h w =
    record w {
      seen = h;
      made = w.made ++ op ∷ [];
      pending = if is_posted op then w.pending else w.pending ++ (k, length h) ∷ [];
      records = w.records ++ Sub (suc w.number) k op (length h) ∷ [];
    }
learned (events.Collect port) (seen.Collected a) h w = record w { seen = h; pending = without a.number w.pending; records = w.records ++ Ans (suc w.number) a.number a.reply (length h) ∷ [] }
learned (events.Serve place) (seen.At at) h w = record w { served = w.served ++ at ∷ [] }
learned _ _ h w = w

-- the event happened by a call of the seat, and this was seen of it
abbrev pub with_done : Event → Seen → Knowledge → Knowledge
with_done event what w = record w { did = w.did ++ record { event = event; what = what } ∷ [] }

-- `learned` as it is, and what was done
abbrev pub learned_also : Event → Seen → List Entry → Knowledge → Knowledge
learned_also event what h w = with_done event what (learned event what h w)

-- the fabric goes over by the event, the released part has this value then and what is still held these, and the seat
-- has learned this
pub record GoesOver (f : Fabric) (event : Event) (what : Seen) (w : Knowledge) (k : ℕ) (v : PartValue) (t : Token) : Type 0 where
  pub after : Fabric
  pub happens : Happens f event what after
  pub parts : parts_of after ≡ write (parts_of f) ((k, v) ∷ t.held)
  pub knows : t.knows ≡ learned_also event what f.memory.entries w

-- Kind 2: the token that holds the footprint of the event releases its first part. What it held goes over by the event,
-- and the token by what it learns
pub record Goes (event : Event) (what : Seen) (t : Token) (k : ℕ) (v : PartValue) (t' : Token) : Type 0 where
  pub covers : hall.Covers t.held k
  pub others : Each (λ (kv : ℕ × PartValue). (kv.0 ≢ k) × hall.Covers t.held kv.0) t'.held
  pub keeps : (j : ℕ) → j ≢ k → hall.Covers t.held j → hall.Covers t'.held j
  pub apart : Apart t'.held
  pub own : (n : ℕ) → Each (λ (r : Record). requester_in r ≡ suc t.knows.number) (records_of event what n)
  pub step : (s : Traced) → IsSoundTraced s → Agrees s t.held → Fits s t.knows → GoesOver s.fabric event what t.knows k v t'

-- the token after an event, holding these parts still
abbrev pub after_event : Event → Seen → List Entry → hall.Values → Token → Token
after_event event what h held t = record { knows = learned_also event what h t.knows; held = held }

-- the same, of an event of which its seat learns nothing else
abbrev pub after_silent : Event → Seen → hall.Values → Token → Token
after_silent event what held t = record { knows = with_done event what t.knows; held = held }
