use Rattle.fabric_steps.proofs.laws.no_completion_is_strange.Goals as goal
use Rattle.std.specs.Prelude.{ℕ, length}
use Rattle.tlp_core.specs.TlpView.{TlpView}
use Rattle.lane_core.specs.Calls.{content}
use Rattle.fabric_steps.specs.Whole.{view}
use Rattle.fabric_steps.specs.Routed.{HasPort, FitsStatus}
use Rattle.fabric_steps.proofs.Lists.{each_at}
use Rattle.fabric_steps.proofs.Expected.{expected}
use Rattle.fabric_steps.proofs.Routed.{finishes}

pub returns : goal.returns
returns x = record {
  expected = λ p i c rest s d. expected i (view p i) c rest (s i) d;
  finished = λ f i mark q lane t s r a b c. finishes f i q lane t mark s r a b c;
  routed = λ f place mark t r at. (each_at (λ (x : TlpView × ℕ). HasPort (length f.requesters) x.0 × FitsStatus x.0.kind x.0.body) (content f.outward) place (t, mark) at r.outward).0;
}
