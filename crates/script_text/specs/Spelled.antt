-- What lines of a script can tell, and that a text is such a line.
use Rattle.std.specs.Prelude.{ℕ, ◌≡◌, ◌^◌, ◌<◌, ◌≤◌, false, List, length, Some}
use Rattle.tlp_core.specs.Limits.{max_payload, most_requesters}
use Rattle.hex.specs.Hex.{IsBytes}
use Rattle.tlp_core.specs.Ops.{Op}
use Rattle.tlp_core.specs.declared.operation.OpOf.TheVariants as ops
use Rattle.tlp_core.specs.declared.operation.Width.{Width}
use Rattle.tlp_core.specs.Operation.{size_of}
use Rattle.fabric_steps.specs.declared.event.LaneName.{LaneName}
use Rattle.fabric_steps.specs.declared.event.LaneName.TheVariants as lanes
use Rattle.fabric_steps.specs.Event.{Event}
use Rattle.fabric_steps.specs.declared.event.EventOf.TheVariants as events
use Rattle.hex_text.specs.Lines.{is_skipped}
use Rattle.operation_text.specs.Words.{words}
use Rattle.operation_text.specs.Texts.{IsPrinted}
use Rattle.operation_text.specs.Operations.{IsSpelledOp}
use Rattle.script_text.specs.declared.line.Line.{Line}
use Rattle.script_text.specs.Forms.{line_of}

-- ---- operations, by the ranges of their fields

-- byte enables have 4 bits
abbrev pub AreEnables : ℕ → ℕ → Type 0
AreEnables first last = (first ≤ 15) × (last ≤ 15)

-- 1 to 128 bytes
pub record IsData (bytes : List ℕ) : Type 0 where
  pub some : 1 ≤ length bytes
  pub few : length bytes ≤ max_payload
  pub are_bytes : IsBytes bytes

abbrev pub IsOperand : Width → ℕ → Type 0
IsOperand width x = x < 256 ^ size_of width

-- an address has 64 bits, a number of DW 16
abbrev pub IsInRange : Op → Type 0
IsInRange (ops.Read a dw first last) = (a < 2 ^ 64) × (dw < 2 ^ 16) × AreEnables first last
IsInRange (ops.Write a first last bytes) = (a < 2 ^ 64) × AreEnables first last × IsData bytes.items
IsInRange (ops.FetchAdd a width x) = (a < 2 ^ 64) × IsOperand width x
IsInRange (ops.Swap a width x) = (a < 2 ^ 64) × IsOperand width x
IsInRange (ops.Cas a width x y) = (a < 2 ^ 64) × IsOperand width x × IsOperand width y

-- ---- events

-- the lanes of requesters have their ports, 1 to 7
abbrev pub IsSpelledLane : LaneName → Type 0
IsSpelledLane (lanes.Up port) = (1 ≤ port) × (port ≤ most_requesters)
IsSpelledLane (lanes.Down port) = (1 ≤ port) × (port ≤ most_requesters)
IsSpelledLane _ = Unit {0}

-- a port has 8 bits, a place 64
abbrev pub IsSpelledEvent : Event → Type 0
IsSpelledEvent (events.Submit port op) = (port < 2 ^ 8) × IsSpelledOp op
IsSpelledEvent (events.Transmit lane) = IsSpelledLane lane
IsSpelledEvent (events.Deliver lane fate) = IsSpelledLane lane
IsSpelledEvent (events.SendDllp lane kind) = IsSpelledLane lane
IsSpelledEvent (events.DeliverDllp lane fate) = IsSpelledLane lane
IsSpelledEvent (events.Timer lane) = IsSpelledLane lane
IsSpelledEvent (events.Retrained lane) = IsSpelledLane lane
IsSpelledEvent (events.Forward lane place) = IsSpelledLane lane × (place < 2 ^ 64)
IsSpelledEvent (events.Serve place) = place < 2 ^ 64
IsSpelledEvent (events.Collect port) = port < 2 ^ 8

-- ---- lines

-- a printed line that is neither too long nor skipped, and is read as this
pub record IsLineOf (text : List ℕ) (line : Line) : Type 0 where
  pub printed : IsPrinted text
  pub short : length text ≤ 512
  pub kept : is_skipped text ≡ false
  pub says : line_of (words text) ≡ Some line
