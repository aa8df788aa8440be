-- A packet as contracts see it, and which packets there are.
use Rattle.std.specs.Prelude.{ℕ, ◌≡◌, ◌*◌, ◌%◌, ◌^◌, ◌<◌, ◌≤◌, ◌⊎◌, Bool, true, false, IsTrue, List, length}
use Rattle.tlp_core.specs.declared.packet.Kind.{Kind}
use Rattle.tlp_core.specs.declared.packet.Kind.TheVariants as kinds
use Rattle.tlp_core.specs.declared.packet.Body.{Body}
use Rattle.tlp_core.specs.declared.packet.Body.TheVariants as bodies
use Rattle.tlp_core.specs.Enables.{are_enables}

-- a `Tlp`, its payload as a list
pub record TlpView : Type 0 where
  pub kind : Kind
  pub tc : ℕ
  pub attr : ℕ
  pub length : ℕ
  pub requester : ℕ
  pub tag : ℕ
  pub body : Body
  pub payload : List ℕ

-- the kinds with data
abbrev pub has_data : Kind → Bool
has_data kinds.MemoryRead = false
has_data kinds.MemoryWrite = true
has_data kinds.FetchAdd = true
has_data kinds.Swap = true
has_data kinds.Cas = true
has_data kinds.Completion = false
has_data kinds.CompletionData = true

-- an AtomicOp of one operand: 4 or 8 bytes of data, at a multiple of their number, and no byte enables
abbrev pub IsOneOperand : ℕ → ℕ → ℕ → ℕ → Type 0
IsOneOperand dw address first last =
    ((dw ≡ 1) ⊎ (dw ≡ 2)) × (address % (4 * dw) ≡ 0) × (first ≡ 0) × (last ≡ 0)

-- an AtomicOp of two operands, a half of the data each
abbrev pub IsTwoOperands : ℕ → ℕ → ℕ → ℕ → Type 0
IsTwoOperands dw address first last =
    ((dw ≡ 2) ⊎ (dw ≡ 4) ⊎ (dw ≡ 8)) × (address % (2 * dw) ≡ 0) × (first ≡ 0) × (last ≡ 0)

-- a read or write of at least one DW, its byte enables by the rule
abbrev pub IsMemoryAccess : ℕ → ℕ → ℕ → ℕ → Type 0
IsMemoryAccess dw address first last =
    (1 ≤ dw) × (address % 4 ≡ 0) × (first < 16) × (last < 16) × IsTrue (are_enables dw address first last)

-- the body, the length and the bytes of data that the kind can have
abbrev pub FitsKind : Kind → Body → ℕ → ℕ → Type 0
FitsKind kinds.MemoryRead (bodies.Request a f l) dw given = IsMemoryAccess dw a f l × (dw ≤ 1024) × (given ≡ 0)
FitsKind kinds.MemoryWrite (bodies.Request a f l) dw given = IsMemoryAccess dw a f l × (dw ≤ 32) × (given ≡ 4 * dw)
FitsKind kinds.FetchAdd (bodies.Request a f l) dw given = IsOneOperand dw a f l × (given ≡ 4 * dw)
FitsKind kinds.Swap (bodies.Request a f l) dw given = IsOneOperand dw a f l × (given ≡ 4 * dw)
FitsKind kinds.Cas (bodies.Request a f l) dw given = IsTwoOperands dw a f l × (given ≡ 4 * dw)
FitsKind kinds.Completion (bodies.Completion c s n lower) dw given = (1 ≤ n) × (n ≤ 4096) × (lower < 128) × (dw ≡ 0) × (given ≡ 0)
FitsKind kinds.CompletionData (bodies.Completion c s n lower) dw given =
    (1 ≤ n) × (n ≤ 4096) × (lower < 128) × (1 ≤ dw) × (dw ≤ 32) × (given ≡ 4 * dw)
FitsKind _ _ dw given = ⊥

-- the packets of the grammar
pub record IsPacket (t : TlpView) : Type 0 where
  pub tc : t.tc < 8
  pub attr : t.attr < 8
  pub fits : FitsKind t.kind t.body t.length (length t.payload)

-- numbers that fit their bytes
abbrev pub FitsFields : Body → Type 0
FitsFields (bodies.Request a f l) = (f < 16) × (l < 16)
FitsFields (bodies.Completion c s n lower) = (n ≤ 4096) × (lower < 128)

-- an address of 64 bits, a Completer ID of 16
abbrev pub IsBodyInRange : Body → Type 0
IsBodyInRange (bodies.Request a f l) = a < 2 ^ 64
IsBodyInRange (bodies.Completion c s n lower) = c < 2 ^ 16
