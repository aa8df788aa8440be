-- The calls of a fabric: what it and the caller's buffer hold after them, and what they return.
use Rattle.std.specs.Prelude.{ℕ, ⊤, ◌≡◌, ◌≤◌, ◌⊎◌, nat_lt, Bool, true, if◌then◌else◌, List, ◌++◌, length, fold, Option, Some, None, Result, Ok, Err, IsOk}
use Rattle.history_words.specs.Records.{Record}
use Rattle.fabric_steps.specs.Fabric.{Fabric}
use Rattle.fabric_core.specs.declared.config.Config.{Config}
use Rattle.fabric_core.specs.declared.config.ConfigFault.{ConfigFault}
use Rattle.fabric_core.specs.Config.{IsConfig, fault_name}
use Rattle.fabric_steps.specs.Event.{Event, Seen}
use Rattle.fabric_steps.specs.declared.fault.Refusal.{Refusal}
use Rattle.fabric_core.specs.Kept.{records_of}
use Rattle.fabric_core.specs.Answers.{Happens, answer, Refused}
use Rattle.fabric_steps.specs.Faults.{is_memory}
use Rattle.fabric_core.specs.Runs.{has_record}
use Rattle.fabric_core.specs.New.{config_fault}
use Rattle.fabric_settle.specs.Happenings.{Happening, Leads}
use Rattle.fabric_settle.specs.Rounds.{settlement}
use Rattle.operation_text.specs.Words.{words}
use Rattle.script_text.specs.declared.line.Line.{Line}
use Rattle.script_text.specs.declared.line.Line.TheVariants as lines
use Rattle.script_text.specs.Forms.{line_of}
use Rattle.script_text.specs.Names.{refusal_text}
use Rattle.script_text.specs.Texts.{seen_text}
use Rattle.c_buffer.specs.declared.outcome.Failure.{Failure}
use Rattle.c_buffer.specs.declared.outcome.Failure.TheVariants.{Text, SmallBuffer, NoLine}
use Rattle.c_buffer.specs.Buffer.{filled, Told, untold, told_fault}
use Rattle.c_fabric.specs.declared.witness.SettleWitness.{SettleWitness}
use Rattle.c_fabric.specs.SessionView.{SessionView, SettledView, settled_of, after_all}

-- ---- making

abbrev pub made : List ℕ → Option ConfigFault → Told ⊤
made buffer None = untold buffer (Ok tt)
made buffer (Some f) = told_fault buffer (fault_name f)

abbrev pub made_by : List ℕ → Option Line → Told ⊤
made_by buffer (Some (lines.Fabric c)) = made buffer (config_fault c)
made_by buffer _ = untold buffer (Err NoLine)

-- the buffer is tested first, then the line, then its configuration
abbrev pub making : List ℕ → List ℕ → Told ⊤
making line buffer = if nat_lt (length buffer) 512 then untold buffer (Err SmallBuffer) else made_by buffer (line_of (words line))

-- the line asks for a fabric of this configuration
abbrev pub AsksFor : List ℕ → Config → Type 0
AsksFor line c = line_of (words line) ≡ Some (lines.Fabric c)

-- there is nothing to refuse but memory: the buffer is large enough, and the line asks for a fabric that can be
abbrev pub IsFabricCall : List ℕ → List ℕ → Type 0
IsFabricCall line buffer = (512 ≤ length buffer) × (c : Config) × AsksFor line c × IsConfig c

-- ---- events

pub record EventCall : Type 0 where
  pub outcome : Result ℕ Failure
  pub session : SessionView
  pub buffer : List ℕ

abbrev pub unmoved : SessionView → List ℕ → Failure → EventCall
unmoved s buffer failure = record { outcome = Err failure; session = s; buffer = buffer }

-- n is the length of the history before the event
abbrev pub recorded : Bool → List Record → Event → Seen → ℕ → List Record
recorded traced rs event what n = if traced then rs ++ records_of event what n else rs

abbrev pub kept : SessionView → Event → Seen → Fabric → ℕ → SessionView
kept s event what f' n = record s { fabric = f'; records = recorded s.is_traced s.records event what n }

-- the event happens, and leaves this fabric, these records, and the text of what is seen of it
abbrev pub IsStep : Fabric → Bool → List Record → Event → Fabric → List Record → List ℕ → Type 0
IsStep f traced rs event f' rs' text =
    (what : Seen) × (answer f event ≡ Ok (what, f')) × (text ≡ seen_text event what)
    × (rs' ≡ recorded traced rs event what (length f.memory.entries))

-- memory is wanted: the event isn't refused, and the fabric can't grow for it; or a trace is kept, and can't grow for the
-- event's record
abbrev pub EventWantsMemory : Fabric → Bool → Event → Type 0
EventWantsMemory f traced event = (IsOk (answer f event) × (r : Refusal) × (is_memory r ≡ true) × Refused f event r) ⊎ ((traced ≡ true) × (has_record event ≡ true))

-- what is seen of the event, or why it is refused, stands in the buffer
abbrev pub answered : SessionView → List ℕ → Event → ℕ → Result (Seen × Fabric) Refusal → EventCall
answered s buffer event n (Ok p) = record {
  outcome = Ok (length (seen_text event p.0));
  session = kept s event p.0 p.1 n;
  buffer = filled buffer (seen_text event p.0);
}
answered s buffer event n (Err r) = record {
  outcome = Err (Text (length (refusal_text r)));
  session = s;
  buffer = filled buffer (refusal_text r);
}

abbrev pub happened : SessionView → List ℕ → Event → EventCall
happened s buffer event = answered s buffer event (length s.fabric.memory.entries) (answer s.fabric event)

abbrev pub happened_by : SessionView → List ℕ → Option Line → EventCall
happened_by s buffer (Some (lines.Event event)) = happened s buffer event
happened_by s buffer _ = unmoved s buffer NoLine

-- there is nothing to refuse but memory: the buffer is large enough, and the line spells an event for which memory is wanted
abbrev pub IsEventCall : SessionView → List ℕ → List ℕ → Type 0
IsEventCall s line buffer = (512 ≤ length buffer) × (event : Event) × (line_of (words line) ≡ Some (lines.Event event)) × EventWantsMemory s.fabric s.is_traced event

-- the buffer is tested first, then the line
abbrev pub event_call : SessionView → List ℕ → List ℕ → EventCall
event_call s line buffer = if nat_lt (length buffer) 512 then unmoved s buffer SmallBuffer else happened_by s buffer (line_of (words line))

-- ---- settlements

-- the session that the rounds of a settlement leave
abbrev pub settled : SessionView → SessionView
settled s = after_all s (settlement s.fabric).happened (settlement s.fabric).fabric

-- what is kept now
abbrev pub settled_view : SettleWitness → SettledView
settled_view w = record { is_traced = w.is_traced; records = w.trace.items; collected = w.collected.items }

-- the events happen in turn to the fabric and leave the other, and what is kept is of these events
pub record Leaves (f : Fabric) (k : SettledView) (f' : Fabric) (k' : SettledView) : Type 0 where
  pub happened : List Happening
  pub led : Leads Happens f happened f'
  pub now : k' ≡ fold settled_of k happened

-- a list of events leads from one session to the other
pub record IsReached (s s' : SessionView) : Type 0 where
  pub happened : List Happening
  pub led : Leads Happens s.fabric happened s'.fabric
  pub now : s' ≡ after_all s happened s'.fabric
