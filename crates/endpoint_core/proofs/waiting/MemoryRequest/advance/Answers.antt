use Rattle.std.proofs.Common.{subst, sym}
use Rattle.tlp_core.specs.TlpView.{TlpView}
use Rattle.endpoint_core.specs.Blocks.{IsCut}
use Rattle.endpoint_core.proofs.Parts.{behind_packet}
use Rattle.endpoint_core.proofs.waiting.MemoryRequest.advance.Goals as goal

pub invariant_of-self : goal.invariant_of-self
invariant_of-self c =
    rw (c.body_behind.ensures) (behind_packet c.args.dw _ c.self.invariant (subst (λ (t : TlpView). IsCut c.args.dw t) (sym c.self.view_is) c.requires))
