use Rattle.std.proofs.Common.{subst, sym}
use Rattle.tlp_core.specs.TlpView.{TlpView}
use Rattle.endpoint_core.specs.Blocks.{IsCut}
use Rattle.endpoint_core.proofs.Parts.{front_packet}
use Rattle.endpoint_core.proofs.requests.in_front.Goals as goal

pub invariant_of-result : goal.invariant_of-result
invariant_of-result c =
    rw (c.body_in_front.ensures) (front_packet c.args.dw _ c.read.invariant (subst (λ (t : TlpView). IsCut c.args.dw t) (sym c.read.view_is) c.requires))
