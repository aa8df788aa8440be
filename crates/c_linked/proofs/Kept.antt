-- A port that stays as it was.
use Rattle.std.proofs.Common.{◌≡◌, ap, ◌∙◌}
use Rattle.port_core.specs.Port.{PortView}
use Rattle.linked_endpoint.specs.LinkedView.{LinkedView}
use Rattle.linked_endpoint.specs.Linked.{with_port}

-- then all stays as it was
pub kept : (old new : LinkedView) (p : PortView) → new ≡ with_port old p → p ≡ old.port → new ≡ old
kept old new p e f = e ∙ ap (λ (q : PortView). with_port old q) f
