-- Rounds of a device behind a link: its peer acknowledges and gives credits back, and the device settles.
use Rattle.std.specs.Prelude.{ℕ, zero, suc, ◌≡◌, true, false, List, [], ◌∷◌, Some}
use Rattle.tlp_core.specs.TlpView.{TlpView}
use Rattle.flow_control.specs.declared.needs.Need.{Need}
use Rattle.flow_control.specs.Credits.{gate_covers}
use Rattle.flow_control.specs.Needs.{need_of}
use Rattle.port_core.specs.declared.init.LinkState.TheVariants.{Active}
use Rattle.endpoint_core.specs.Steps.{next_need}
use Rattle.linked_endpoint.specs.LinkedView.{LinkedView}
use Rattle.linked_endpoint.specs.Linked.{may_act, may_enter}
use Rattle.linked_endpoint.specs.Runs.{Call, GoesOn, after_calls}
use Rattle.linked_endpoint.specs.Runs as calls

-- packets are sent, DLLPs arrive, timers expire: no packet arrives, and the link stays up
abbrev pub IsOfLink : Call → Type 0
IsOfLink (calls.ReceiveDllp bytes check) = Unit {0}
IsOfLink calls.Next = Unit {0}
IsOfLink calls.Refresh = Unit {0}
IsOfLink calls.Replay = Unit {0}
IsOfLink calls.Retrained = Unit {0}
IsOfLink _ = ⊥

abbrev pub AreOfLink : List Call → Type 0
AreOfLink [] = Unit {0}
AreOfLink (call ∷ calls) = IsOfLink call × AreOfLink calls

-- in DL_Active the peer has acknowledged all that the replay buffer kept, and there are credits for the completion that is
-- held, and for the next of the oldest request that waits
pub record IsServed (l : LinkedView) : Type 0 where
  pub active : l.port.state ≡ Active
  pub acknowledged : l.port.sender.sending.kept ≡ []
  pub held : (t : TlpView) → l.held ≡ Some t → gate_covers l.port.sender.gate (need_of t) ≡ true
  pub next : (need : Need) → next_need l.endpoint ≡ Some need → gate_covers l.port.sender.gate need ≡ true

-- the peer serves the device, and then the device settles
pub record IsRound (old new : LinkedView) : Type 0 where
  pub calls : List Call
  pub are : AreOfLink calls
  pub served : IsServed (after_calls old calls)
  pub settles : GoesOn (after_calls old calls) new
  pub done : may_act new ≡ false
  pub entered : may_enter new ≡ false

-- so many rounds
abbrev pub Rounds : ℕ → LinkedView → LinkedView → Type 0
Rounds zero old new = old ≡ new
Rounds (suc n) old new = (next : LinkedView) × IsRound old next × Rounds n next new
