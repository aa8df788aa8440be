-- What a seat knows, said of the fabric alone.
use Rattle.std.specs.Prelude.{◌≡◌, ℕ, suc, ◌<◌, ◌≤◌, false, List, length, take, Some}
use mathlib.Core.Option.{some}
use lib.ListN.{get_elem?}
use Rattle.history_words.specs.Records.{Record}
use Rattle.history_words.specs.Trace.{stands}
use Rattle.fabric_steps.specs.Lists.{Each}
use Rattle.fabric_steps.specs.Whole.{view}
use Rattle.fabric_steps.specs.Trace.{Belongs, IsMade, IsOpen}
use Rattle.fabric_steps.specs.Fabric.{Fabric, whole_of}
use Rattle.hall_laws.specs.declared.token.Knowledge.{Knowledge}
use Rattle.fabric_core.specs.Kept.{IsSoundFabric}
use Rattle.hall_laws.specs.declared.part.PartValue.{PartValue}
use Rattle.hall_laws.specs.declared.token.Token.{Token}
use Rattle.hall_laws.specs.Parts.{parts_of}
use Rattle.hall_laws.specs.Standing.{Table, word_of, Found, total, named, serving}
use Rattle.hall_laws.specs.Story.{Act, Tells, done_by}
use Rattle.hall_laws.specs.Rule.{Begins, HasConfig}
use Rattle.hall_laws.specs.Tells.{Has, AnsweredStand}

pub record IsTrueOf (f : Fabric) (w : Knowledge) : Type 0 where
  pub config : HasConfig f w.config
  -- it has seen a prefix of the history
  pub seen : Begins w.seen f.memory.entries
  -- what it made is what its requester submitted, read off the path
  pub made : IsMade (suc w.number) (view (whole_of f) (suc w.number)) w.made
  -- what is pending is what is open
  pub open_pending : (k : ℕ) → IsOpen (whole_of f) (suc w.number) k → (n : ℕ) × Has (k, n) w.pending
  pub pending_open : (k n : ℕ) → Has (k, n) w.pending → IsOpen (whole_of f) (suc w.number) k
  -- a pending request was submitted when the history was no longer than what was seen, and is not among so many entries
  pub pending_seen : (k n : ℕ) → Has (k, n) w.pending → n ≤ length w.seen
  pub pending_later : (k n : ℕ) → Has (k, n) w.pending → stands (take n f.memory.entries) (suc w.number) k ≡ false
  -- what isn't posted and isn't pending is seen
  pub answered : AnsweredStand w w.seen
  pub served : Each (λ (n : ℕ). n < length f.memory.entries) w.served

-- The rule of the hall, line by line, over the words, the values at home and the views of all seats
pub record IsRuled (s : Table) : Type 0 where
  -- the state is a sound fabric
  pub state : Fabric
  pub sound : IsSoundFabric state
  -- one list of acts leads to it from the fabric that the hall was made of, with these records
  pub opened : Fabric
  pub acts : List Act
  pub records : List Record
  pub ran : Tells opened acts records state
  -- which belong to it
  pub belongs : Belongs (whole_of state) records
  -- each of them is of one of the hall's seats
  pub seats : ℕ
  pub by : Each (λ (a : Act). a.by < seats) acts
  -- each part has its word and its slot
  pub wide : length s.words ≡ word_of (length (parts_of state))
  pub deep : length s.homes ≡ length (parts_of state)
  -- a part whose word is 0 is at home in its slot
  pub at_home : (k : ℕ) (v : PartValue) → get_elem? s.words (word_of k) ≡ some 0 → get_elem? (parts_of state) k ≡ some v → get_elem? s.homes k ≡ some (some (Some v))
  -- any other is held by a token of the seat that its word names
  pub held : (k n : ℕ) → get_elem? s.words (word_of k) ≡ some (suc n) → Found s.views n k
  -- a part that a token holds has the word of its seat, and the value that the token says
  pub holds : (j : ℕ) (ts : List Token) → get_elem? s.views j ≡ some ts
      → Each (λ (t : Token). Each (λ (kv : ℕ × PartValue). (get_elem? s.words (word_of kv.0) ≡ some (suc t.knows.number)) × (get_elem? (parts_of state) kv.0 ≡ some kv.1)) t.held) ts
  -- no seat number stands in two tokens
  pub one_seat : (n : ℕ) → total (named n) s.views ≤ 1
  -- no place of the history stands twice in all that was served
  pub one_serving : (n : ℕ) → total (serving n) s.views ≤ 1
  -- each seat knows that first fabric, and what it did are the acts with its number, in their order
  pub did : (j : ℕ) (ts : List Token) → get_elem? s.views j ≡ some ts → Each (λ (t : Token). (t.knows.opened ≡ opened) × (t.knows.seats ≡ seats) × (t.knows.number < seats) × (t.knows.did ≡ done_by t.knows.number acts)) ts
  -- what each seat knows is true of the state
  pub knows : (j : ℕ) (ts : List Token) → get_elem? s.views j ≡ some ts → Each (λ (t : Token). IsTrueOf state t.knows) ts
