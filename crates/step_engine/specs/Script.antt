-- What the lines of a script say, and what they do to its fabric.
use Rattle.std.specs.Prelude.{ℕ, ◌≡◌, ◌⊎◌, nat_lt, if◌then◌else◌, Bool, true, List, [], ◌∷◌, fold, length, map, Option, Some, None}
use Rattle.history_words.specs.Records.{Record}
use Rattle.fabric_steps.specs.Fabric.{Fabric}
use Rattle.fabric_core.specs.declared.config.Config.{Config}
use Rattle.fabric_steps.specs.Event.{Event}
use Rattle.fabric_steps.specs.declared.fault.Refusal.{Refusal}
use Rattle.fabric_core.specs.Config.{IsNewWith}
use Rattle.fabric_core.specs.Steps.{Refused}
use Rattle.fabric_core.specs.Runs.{Recorded}
use Rattle.fabric_steps.specs.Faults.{IsTold}
use Rattle.operation_text.specs.Words.{words}
use Rattle.script_text.specs.declared.line.Line.{Line}
use Rattle.script_text.specs.declared.line.Line.TheVariants as lines
use Rattle.script_text.specs.Forms.{line_of}
use Rattle.fabric_settle.specs.Keeping.{IsLossless, Never, with_record}
use Rattle.fabric_settle.specs.Reached.{Reached}
use Rattle.fabric_settle.specs.Rounds.{settlement}
use Rattle.hex_text.specs.Lines.{lines_of, bare, said, is_skipped}

-- what a line says, before what the others say: nothing where it is skipped, and none of a script where it is too long
abbrev pub put_before : List ℕ → List (Option Line) → List (Option Line)
put_before line rest =
    if nat_lt 512 (length (bare line)) then None ∷ rest
    else (if is_skipped (said line) then rest else line_of (words (said line)) ∷ rest)

abbrev pub script_of : List (List ℕ) → List (Option Line)
script_of [] = []
script_of (line ∷ rest) = put_before line (script_of rest)

abbrev pub event_line : Event → Option Line
event_line event = Some (lines.Event event)

-- the script makes a fabric of this configuration, to which these events happen
abbrev pub IsScript : List ℕ → Config → List Event → Type 0
IsScript input c events = script_of (lines_of input) ≡ Some (lines.Fabric c) ∷ map event_line events

-- ---- scripts that run to their end

-- the fabric of a script, the records of what happened to it, and the exit status so far
pub record Progress : Type 0 where
  pub fabric : Fabric
  pub records : List Record
  pub status : ℕ

abbrev pub progress : Fabric → List Record → ℕ → Progress
progress f rs status = record { fabric = f; records = rs; status = status }

-- an event happens
pub record EventHappens (p : Progress) (event : Event) (p' : Progress) : Type 0 where
  pub recorded : Recorded p.fabric event p.records p'.fabric p'.records
  pub status : p'.status ≡ p.status

-- it is refused, for another cause than being out of memory, and nothing changes but the exit status
pub record EventIsPassed (p : Progress) (event : Event) (p' : Progress) : Type 0 where
  pub refusal : Refusal
  pub refused : Refused p.fabric event refusal
  pub told : IsTold refusal
  pub now : p' ≡ progress p.fabric p.records 1

-- rounds of events lead to a fabric in which nothing moves
pub record Settles (p : Progress) (p' : Progress) : Type 0 where
  pub reached : Reached with_record (IsLossless Never) p.fabric p.records p'.fabric p'.records
  pub fabric : p'.fabric ≡ (settlement p.fabric).fabric
  pub records : p'.records ≡ fold with_record p.records (settlement p.fabric).happened
  pub status : p'.status ≡ p.status

-- a line after the first, in a run that goes on after refusals or ends there
abbrev pub LineDoes : Bool → Progress → Option Line → Progress → Type 0
LineDoes keeps_going p None p' = ⊥
LineDoes keeps_going p (Some (lines.Fabric c)) p' = ⊥
LineDoes keeps_going p (Some (lines.Event event)) p' = EventHappens p event p' ⊎ ((keeps_going ≡ true) × EventIsPassed p event p')
LineDoes keeps_going p (Some lines.Settle) p' = Settles p p'

abbrev pub LinesDo : Bool → Progress → List (Option Line) → Progress → Type 0
LinesDo keeps_going p [] p' = p' ≡ p
LinesDo keeps_going p (l ∷ ls) p' = (next : Progress) × LineDoes keeps_going p l next × LinesDo keeps_going next ls p'

-- the first line makes a fabric, and those after it leave this
pub record RunsThrough (keeps_going : Bool) (input : List ℕ) (p : Progress) : Type 0 where
  pub config : Config
  pub fabric : Fabric
  pub after : List (Option Line)
  pub says : script_of (lines_of input) ≡ Some (lines.Fabric config) ∷ after
  pub is_new : IsNewWith config fabric
  pub goes_on : LinesDo keeps_going (progress fabric [] 0) after p
