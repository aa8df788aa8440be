-- What may be concluded of parts that are held.
use Rattle.std.specs.Prelude.{◌≡◌, ℕ, suc, List, [], ◌∷◌, length}
use Rattle.tlp_core.specs.Ops.{Op}
use Rattle.seq_memory.specs.History.{MemoryView}
use Rattle.requester_core.specs.Answers.{Answer}
use Rattle.fabric_steps.specs.Event.{Event, Seen}
use Rattle.fabric_steps.specs.declared.event.EventOf.TheVariants as events
use Rattle.fabric_steps.specs.declared.event.SeenOf.TheVariants as seen
use Rattle.hall_laws.specs.declared.part.PartValue.{PartValue}
use Rattle.hall_laws.specs.declared.part.PartValue.TheVariants.{Memory}
use Rattle.hall_laws.specs.declared.token.Token.{Token}
use Rattle.hall_laws.specs.Rule.{Known, Goes, learned_also}
use Rattle.hall_laws.specs.Shows.{Shows}
use Rattle.hall_laws.specs.Tells.{SubmitTells, CollectTells, SeesTells, Met}

abbrev pub SubmissionTells : Type 0
SubmissionTells = (t t' : Token) (ts : List Token) (u r k : ℕ) (x y v : PartValue) (m : MemoryView) (op : Op) → Known (t ∷ ts) → t.held ≡ (u, x) ∷ ((r, y) ∷ ((0, Memory m) ∷ []))
    → Goes (events.Submit (suc t.knows.number) op) (seen.Submitted k) t r v t'
    → SubmitTells t.knows k op (length m.entries) (learned_also (events.Submit (suc t.knows.number) op) (seen.Submitted k) m.entries t.knows)

abbrev pub CollectionTells : Type 0
CollectionTells = (t t' : Token) (ts : List Token) (u r : ℕ) (x y v : PartValue) (m : MemoryView) (a : Answer) → Known (t ∷ ts) → t.held ≡ (u, x) ∷ ((r, y) ∷ ((0, Memory m) ∷ []))
    → Goes (events.Collect (suc t.knows.number)) (seen.Collected a) t r v t'
    → CollectTells t.knows a.number a.reply (length m.entries) (learned_also (events.Collect (suc t.knows.number)) (seen.Collected a) m.entries t.knows)

-- what is seen of an event is what a sound fabric that fits the seat shows
abbrev pub EventShows : Type 0
EventShows = (event : Event) (what : Seen) (t t' : Token) (ts : List Token) (k : ℕ) (v : PartValue) → Known (t ∷ ts) → Goes event what t k v t' → Shows t.knows event what

abbrev pub LookTells : Type 0
LookTells = (t : Token) (ts : List Token) (m : MemoryView) → Known (t ∷ ts) → t.held ≡ (0, Memory m) ∷ [] → SeesTells t.knows (record t.knows { seen = m.entries })

abbrev pub MeetingTells : Type 0
MeetingTells = (t u : Token) (m : MemoryView) → Known (t ∷ (u ∷ [])) → t.held ≡ (0, Memory m) ∷ [] → Met t.knows m.entries (record t.knows { seen = m.entries }) × Met u.knows m.entries (record u.knows { seen = m.entries })
