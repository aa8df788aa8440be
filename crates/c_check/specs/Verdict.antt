-- The verdict on the text of a trace: what is returned, and the line of `pciex check` in the caller's buffer.
use Rattle.std.specs.Prelude.{ℕ, ⊤, ◌≡◌, ◌≤◌, ◌⊎◌, Bool, true, false, nat_lt, if◌then◌else◌, List, length, Option, Some, None, Result, Ok, Err}
use Rattle.history_words.specs.declared.flaws.FlawKind.{FlawKind}
use Rattle.history_words.specs.Claim.{Claim}
use Rattle.history_words.specs.Clocks.{IsClocked, KeepsRealTimeOrder}
use Rattle.history_words.specs.Flaws.{first_flaw, first_flaw_clocked}
use Rattle.history_words.specs.Trace.{Explains}
use Rattle.record_text.specs.declared.fault.ReadFault.{ReadFault}
use Rattle.trace_text.specs.TraceReaderView.{read_of, IsRefused}
use Rattle.record_text.specs.Names.{fault_line}
use Rattle.flaw_places.specs.Places.{flaw_line}
use Rattle.c_buffer.specs.declared.outcome.Failure.TheVariants.{SmallBuffer}
use Rattle.c_buffer.specs.Buffer.{Told, untold, told_fault}

-- by the first flaw, if there is one
abbrev pub judged : List ℕ → Option (FlawKind × ℕ) → Told ⊤
judged buffer None = untold buffer (Ok tt)
judged buffer (Some f) = told_fault buffer (flaw_line f.0 f.1)

-- the first flaw, with the n's asked for or without
abbrev pub flaw_by : Bool → Claim → Option (FlawKind × ℕ)
flaw_by true c = first_flaw_clocked c
flaw_by false c = first_flaw c

-- the history explains the trace, the n's are those of a history that grew, and requests act in real-time order
abbrev pub IsOrdered : Claim → Type 0
IsOrdered c = Explains c × IsClocked c × KeepsRealTimeOrder c

-- what is asked for holds
abbrev pub IsRight : Bool → Claim → Type 0
IsRight true c = Explains c × IsClocked c
IsRight false c = Explains c

-- by what was read
abbrev pub checked : Bool → List ℕ → Result Claim ReadFault → Told ⊤
checked is_clocked buffer (Err f) = told_fault buffer (fault_line f)
checked is_clocked buffer (Ok c) = judged buffer (flaw_by is_clocked c)

abbrev pub verdict : Bool → List ℕ → List ℕ → Told ⊤
verdict is_clocked text buffer = if nat_lt (length buffer) 512 then untold buffer (Err SmallBuffer) else checked is_clocked buffer (read_of text)

-- memory is wanted for a record or an entry, before which the text has no fault; or to check what was read
abbrev pub WantsMemory : List ℕ → Type 0
WantsMemory text = ((f : ReadFault) × IsRefused text f) ⊎ ((c : Claim) × (read_of text ≡ Ok c))

-- there is nothing to refuse but memory: the buffer is large enough, and memory is wanted
abbrev pub IsCheckCall : List ℕ → List ℕ → Type 0
IsCheckCall text buffer = (512 ≤ length buffer) × WantsMemory text
