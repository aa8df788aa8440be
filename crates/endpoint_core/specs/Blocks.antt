-- A read in two parts.
use Rattle.std.specs.Prelude.{ℕ, ◌≡◌, ◌+◌, ◌*◌, ◌^◌, ◌<◌, ◌≤◌, ◌⊎◌, List, [], ◌∷◌}
use Rattle.tlp_core.specs.declared.packet.Kind.{Kind}
use Rattle.tlp_core.specs.declared.packet.Kind.TheVariants as kinds
use Rattle.tlp_core.specs.declared.packet.Body.{Body}
use Rattle.tlp_core.specs.declared.packet.Body.TheVariants as bodies
use Rattle.tlp_core.specs.TlpView.{TlpView}
use Rattle.op_pieces.specs.Pieces.{inner}
use Rattle.endpoint_core.specs.declared.waiting.Waiting.{Waiting}
use Rattle.endpoint_core.specs.declared.waiting.Waiting.TheVariants as waits
use Rattle.endpoint_core.specs.Steps.{behind}

-- the first so many DW of a read
abbrev pub body_in_front : ℕ → Body → Body
body_in_front n (bodies.Request a f l) = bodies.Request a f (inner n)
body_in_front n body = body

abbrev pub in_front : ℕ → TlpView → TlpView
in_front n t = record t { length = n; body = body_in_front n t.body }

-- its place ends at 2^64 or below
abbrev pub EndsInRange : Body → ℕ → Type 0
EndsInRange (bodies.Request a f l) dw = a + 4 * dw ≤ 2 ^ 64
EndsInRange body dw = Unit {0}

-- a read that has more DW than these
abbrev pub IsCutAt : ℕ → Kind → Body → ℕ → Type 0
IsCutAt n kind body dw = (kind ≡ kinds.MemoryRead) × (1 ≤ n) × (n < dw) × EndsInRange body dw

abbrev pub IsCut : ℕ → TlpView → Type 0
IsCut n t = IsCutAt n t.kind t.body t.length

-- nothing is left, or a part of a read
abbrev pub CanAdvance : ℕ → List Waiting → Type 0
CanAdvance n [] = Unit {0}
CanAdvance n (waits.Memory t ∷ ws) = (n ≡ 0) ⊎ IsCut n t
CanAdvance n (w ∷ ws) = n ≡ 0

-- a part of it, if it is a memory request
abbrev pub CanGoOn : ℕ → Waiting → Type 0
CanGoOn n (waits.Memory t) = IsCut n t
CanGoOn n w = Unit {0}

-- what is left of it behind so many DW
abbrev pub gone_on : ℕ → Waiting → Waiting
gone_on n (waits.Memory t) = waits.Memory (behind n t)
gone_on n w = w

-- a memory request with a completion
abbrev pub IsNonPosted : Kind → Type 0
IsNonPosted kinds.MemoryRead = Unit {0}
IsNonPosted kinds.FetchAdd = Unit {0}
IsNonPosted kinds.Swap = Unit {0}
IsNonPosted kinds.Cas = Unit {0}
IsNonPosted _ = ⊥

-- a completion with another Completer ID, Byte Count and Lower Address
abbrev pub body_counted : ℕ → ℕ → ℕ → Body → Body
body_counted id n lower (bodies.Completion c status m low) = bodies.Completion id status n lower
body_counted id n lower body = body

abbrev pub counted : ℕ → ℕ → ℕ → TlpView → TlpView
counted id n lower c = record c { body = body_counted id n lower c.body }
