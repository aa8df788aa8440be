-- The Requester IDs of the packets in the lanes, and the forms of the completions.
use Rattle.std.specs.Prelude.{ℕ, ◌≡◌, ◌*◌, ◌<◌, suc, length, slice_get, Some, is_some, true}
use Rattle.tlp_core.specs.declared.packet.Kind.{Kind}
use Rattle.tlp_core.specs.declared.packet.Kind.TheVariants as kinds
use Rattle.tlp_core.specs.declared.packet.Body.{Body}
use Rattle.tlp_core.specs.declared.packet.Body.TheVariants as bodies
use Rattle.tlp_core.specs.declared.packet.Status.TheVariants as statuses
use Rattle.tlp_core.specs.TlpView.{TlpView}
use Rattle.tlp_core.specs.Operation.{op_of}
use Rattle.lane_core.specs.Steps.{LaneEndsView}
use Rattle.lane_core.specs.Calls.{content}
use Rattle.fabric_steps.specs.Lists.{Each}
use Rattle.fabric_steps.specs.Whole.{RequesterView}
use Rattle.fabric_steps.specs.Fabric.{Fabric}

-- the Requester ID is that of one of the ports 1 to n
pub record HasPort (n : ℕ) (t : TlpView) : Type 0 where
  pub place : ℕ
  pub some_port : place < n
  pub id : t.requester ≡ suc place * 256

-- a completion with data is successful, and one without data is not
abbrev pub FitsStatus : Kind → Body → Type 0
FitsStatus kinds.CompletionData (bodies.Completion c statuses.Success n l) = Unit {0}
FitsStatus kinds.Completion (bodies.Completion c statuses.Unsupported n l) = Unit {0}
FitsStatus kinds.Completion (bodies.Completion c statuses.Aborted n l) = Unit {0}
FitsStatus _ _ = ⊥

-- requests of ports 1 to n, each for an operation
abbrev pub HoldsRequests : ℕ → LaneEndsView → Type 0
HoldsRequests n e = Each (λ x. HasPort n x.0 × (is_some (op_of x.0) ≡ true)) (content e)

-- completions for ports 1 to n
abbrev pub HoldsCompletions : ℕ → LaneEndsView → Type 0
HoldsCompletions n e = Each (λ x. HasPort n x.0 × FitsStatus x.0.kind x.0.body) (content e)

pub record IsRouted (f : Fabric) : Type 0 where
  pub ports : (i : ℕ) (q : RequesterView) → slice_get f.requesters i ≡ Some q → q.port ≡ suc i
  pub up : (i : ℕ) (e : LaneEndsView) → slice_get f.up i ≡ Some e → HoldsRequests (length f.requesters) e
  pub inward : HoldsRequests (length f.requesters) f.inward
  pub outward : HoldsCompletions (length f.requesters) f.outward
  pub down : (i : ℕ) (e : LaneEndsView) → slice_get f.down i ≡ Some e → HoldsCompletions (length f.requesters) e
