use Rattle.fabric_steps.proofs.laws.packets_keep_their_ports.Goals as goal
use Rattle.std.specs.Prelude.{ℕ, ◌≡◌, true, length, is_some}
use Rattle.tlp_core.specs.TlpView.{TlpView}
use Rattle.tlp_core.specs.Operation.{op_of}
use Rattle.lane_core.specs.Calls.{content}
use Rattle.fabric_steps.specs.Routed.{HasPort}
use Rattle.fabric_steps.proofs.Lists.{each_at}
use Rattle.fabric_steps.proofs.Routed.{submit_routed, forward_routed, serve_routed, return_routed, collect_routed, linked_up, linked_down, linked_in, linked_out}

pub returns : goal.returns
returns c = record {
  asks = λ f place mark t r at. (each_at (λ (x : TlpView × ℕ). HasPort (length f.requesters) x.0 × (is_some (op_of x.0) ≡ true)) (content f.inward) place (t, mark) at r.inward).1;
  submitted = λ f f' i op r e. submit_routed f i op f' r e;
  forwarded = λ f f' i place r e. forward_routed f i place f' r e;
  served = λ f f' place r e. serve_routed f place f' r e;
  returned = λ f f' i place r e. return_routed f i place f' r e;
  collected = λ f f' i a r e. collect_routed f i a f' r e;
  up = linked_up;
  down = linked_down;
  inward = linked_in;
  outward = linked_out;
}
