-- What each call tells of what its seat knows.
use Rattle.std.specs.Prelude.{◌≡◌, ◌⊎◌, ℕ, suc, ◌<◌, ◌≤◌, true, false, if◌then◌else◌, List, [], ◌∷◌, ◌++◌, length, take, slice_get, Some}
use Rattle.tlp_core.specs.Ops.{Op}
use Rattle.tlp_core.specs.Operation.{is_posted}
use Rattle.seq_memory.specs.Entries.{Entry}
use Rattle.seq_memory.specs.Entries.{Reply}
use Rattle.seq_memory.specs.History.{reply_at}
use Rattle.history_words.specs.declared.record.RecordOf.TheVariants.{Sub, Ans}
use Rattle.history_words.specs.Trace.{stands, IsLawful}
use Rattle.fabric_steps.specs.declared.event.EventOf.TheVariants as events
use Rattle.fabric_steps.specs.declared.event.SeenOf.TheVariants as seen
use Rattle.hall_laws.specs.declared.token.Knowledge.{Knowledge}
use Rattle.hall_laws.specs.Waiting.{without}
use Rattle.hall_laws.specs.Rule.{Traced, IsSoundTraced, Fits, Begins, with_done, extent_for}

-- one of them is x
abbrev pub Has : {X : Type 0} → X → List X → Type 0
Has x [] = ⊥
Has x (y ∷ ys) = (y ≡ x) ⊎ Has x ys

-- requester i submitted these operations, and of its requests the history has those alone, each once, as submitted, and
-- each after the posted writes that were submitted before it
abbrev pub IsLegalFor : ℕ → List Op → List Entry → Type 0
IsLegalFor i ops h = (p : ℕ) (e : Entry) → slice_get h p ≡ Some e → e.requester ≡ i → IsLawful (λ _. ops) (take p h) e

-- what the seat has seen is all of the history of some sound fabric of which it knows this
abbrev pub HasSeenAll : Knowledge → Type 0
HasSeenAll w = (s : Traced) × IsSoundTraced s × Fits s w × (s.fabric.memory.entries ≡ w.seen)

-- the seat submitted an operation, as request k at the length n of the history, and did nothing else
pub record SubmitTells (w : Knowledge) (k : ℕ) (op : Op) (n : ℕ) (w' : Knowledge) : Type 0 where
  -- what it has seen is the history
  pub whole : HasSeenAll w'
  pub begins : Begins w.seen w'.seen
  pub is_length : n ≡ length w'.seen
  -- the operation stands at its number; the request isn't in the history, and waits if it isn't posted
  pub number : k ≡ length w.made
  pub new : stands w'.seen (suc w.number) k ≡ false
  pub knows : w' ≡ with_done (events.Submit (suc w.number) op) (seen.Submitted k) (record w {
    seen = w'.seen;
    made = w.made ++ op ∷ [];
    pending = if is_posted op then w.pending else w.pending ++ (k, n) ∷ [];
    records = w.records ++ Sub (suc w.number) k op n ∷ [];
  })

-- the seat collected the reply to its request k at the length n of the history, and did nothing else
pub record CollectTells (w : Knowledge) (k : ℕ) (reply : Reply) (n : ℕ) (w' : Knowledge) : Type 0 where
  pub whole : HasSeenAll w'
  pub begins : Begins w.seen w'.seen
  pub is_length : n ≡ length w'.seen
  -- it waited since the history had the length `since`, and waits no more
  pub since : ℕ
  pub waited : Has (k, since) w.pending
  pub knows : w' ≡ with_done (events.Collect (suc w.number)) (seen.Collected (record { number = k; reply = reply })) (record w { seen = w'.seen; pending = without k w.pending; records = w.records ++ Ans (suc w.number) k reply n ∷ [] })
  -- it acted at this point, and the reply is the sequential memory's there
  pub point : ℕ
  pub op : Op
  pub after_submission : since ≤ point
  pub before_answer : point < n
  pub acted : slice_get w'.seen point ≡ Some (record { requester = suc w.number; number = k; op = op })
  pub submitted : slice_get w.made k ≡ Some op
  pub replied : reply_at (extent_for w.config) w'.seen point ≡ Some reply
  pub legal : IsLegalFor (suc w.number) w.made w'.seen

-- the seat has seen the history, and knows else what it knew: nothing happened by its call
pub record SeesTells (w w' : Knowledge) : Type 0 where
  pub whole : HasSeenAll w'
  pub begins : Begins w.seen w'.seen
  pub knows : w' ≡ record w { seen = w'.seen }

-- each answered request of the seat stands in the history
abbrev pub AnsweredStand : Knowledge → List Entry → Type 0
AnsweredStand w h = (k : ℕ) (op : Op) → slice_get w.made k ≡ Some op → is_posted op ≡ false → ((n : ℕ) → Has (k, n) w.pending → ⊥) → stands h (suc w.number) k ≡ true

-- one of two seats that met at a history
pub record Met (w : Knowledge) (h : List Entry) (w' : Knowledge) : Type 0 where
  pub begins : Begins w.seen h
  pub knows : w' ≡ record w { seen = h }
  pub answered : AnsweredStand w' h
  pub legal : IsLegalFor (suc w'.number) w'.made h
