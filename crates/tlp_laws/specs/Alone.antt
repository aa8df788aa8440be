-- A request that is alone in a fabric, and what becomes of it.
use Rattle.std.specs.Prelude.{ℕ, ◌≡◌, ◌<◌, ◌-◌, ◌^◌, false, true, List, [], ◌∷◌, ◌++◌, Some, slice_get}
use Rattle.std.specs.List.{list_any}
use Rattle.tlp_core.specs.Ops.{Op}
use Rattle.tlp_core.specs.TlpView.{TlpView}
use Rattle.tlp_core.specs.Operation.{is_posted}
use Rattle.seq_memory.specs.Entries.{Reply}
use Rattle.seq_memory.specs.Step.{answer}
use Rattle.seq_memory.specs.History.{MemoryView, bytes_of}
use Rattle.completer_core.specs.Serving.{with_entry}
use Rattle.completer_core.specs.Completion.{completion_of}
use Rattle.packet_engine.specs.Tlp.{requests_of, answer_packet, with_history, completion_text}
use Rattle.line_loop.specs.Run.{Answer}
use Rattle.history_words.specs.Records.{Record}
use Rattle.history_words.specs.declared.record.RecordOf.TheVariants.{Ans}
use Rattle.history_words.specs.Trace.{answers_to}
use Rattle.fabric_steps.specs.Fabric.{Fabric, whole_of}
use Rattle.fabric_steps.specs.Lists.{Each}
use Rattle.fabric_steps.specs.Trace.{Belongs}
use Rattle.fabric_steps.specs.Event.{Event}
use Rattle.fabric_steps.specs.declared.event.EventOf.TheVariants.{Submit}
use Rattle.fabric_core.specs.Kept.{IsSoundFabric, IsNoSubmission}
use Rattle.fabric_core.specs.Quiet.{IsQuiet}
use Rattle.fabric_core.specs.Runs.{Runs}

-- the requester of a fabric at rest, to which the records belong, submits the operation, and events that submit nothing
-- bring the fabric to rest again, as those of a settlement do
pub record IsAlone (f : Fabric) (records : List Record) (port : ℕ) (op : Op) (told : List Record) (g : Fabric) : Type 0 where
  pub sound : IsSoundFabric f
  pub belongs : Belongs (whole_of f) records
  pub quiet : IsQuiet f
  pub events : List Event
  pub nothing : Each IsNoSubmission events
  pub runs : Runs f (Submit port op ∷ events) told g
  pub rests : IsQuiet g

-- the memory has one entry more, the request, under the number of its requester's earlier ones; and if it isn't posted, it
-- is answered, with the memory's reply
pub record IsAnswered (m : MemoryView) (port : ℕ) (op : Op) (records : List Record) (m' : MemoryView) : Type 0 where
  pub number : ℕ
  pub numbered : number ≡ requests_of m.entries port
  pub few : number < 2 ^ 32 - 1
  pub acted : m' ≡ with_entry m (record { requester = port; number = number; op = op })
  pub answered : is_posted op ≡ false → list_any (answers_to port number) records ≡ true
  pub replied : (a n : ℕ) (reply : Reply) → slice_get records a ≡ Some (Ans port number reply n) → reply ≡ answer m.base m.block (bytes_of m) op

-- what `tlp` prints for a request, with a memory, and the memory that it is left with
abbrev pub by_tlp : MemoryView → TlpView → Op → MemoryView → Answer MemoryView
by_tlp m t op m' = record { state = m'; text = completion_text (completion_of t (answer m.base m.block (bytes_of m) op)) ++ 10 ∷ []; is_fault = false }
