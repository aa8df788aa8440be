use Rattle.std.proofs.Common.{subst}
use Rattle.tlp_core.specs.TlpView.{TlpView}
use Rattle.tlp_core.specs.Layout.{canonical, Spells}
use Rattle.tlp_core.proofs.Canon.{canon_spells}
use Rattle.tlp_core.proofs.encoding.header_bytes.Goals as goal

pub returns-clause-spelled : goal.returns-clause-spelled
returns-clause-spelled c =
    let i = c.tlp.inside in
    let h = i.header in
    let t : TlpView = record { kind = h.kind; tc = h.tc; attr = h.attr; length = h.length; requester = h.requester; tag = h.tag; body = h.body; payload = i.payload.now } in
    subst (λ (t : TlpView). Spells (canonical t) t) c.tlp.view_is (canon_spells t c.put_rest.ensures.ranges.0 c.put_rest.ensures.ranges.2 c.tlp.invariant)
