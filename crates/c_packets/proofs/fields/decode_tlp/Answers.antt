use Rattle.std.proofs.Common.{◌≡◌, ◌∙◌, ◌-◌, sym, ap, length, List, ℕ}
use Rattle.tlp_core.specs.TlpView.{TlpView}
use Rattle.tlp_core.specs.Layout.{header_length}
use Rattle.c_packets.specs.declared.fields.TlpFields.{TlpFields}
use Rattle.c_packets.proofs.FieldLemmas.{payload-is}
use Rattle.c_packets.proofs.fields.decode_tlp.Goals as goal

pub returns-in-Ok-clause-payload : goal.returns-in-Ok-clause-payload
returns-in-Ok-clause-payload c done =
    let packet = c.args.packet.now in
    let t = c.in-Ok.tlp in
    let fields = c.fields_of.result in
    let lent : c.tlp.inside.payload.now ≡ t.payload = ap (λ (x : TlpView). x.payload) c.tlp.view_is in (
      t,
      sym c.decode_lent.ensures.reading ∙ c.in-Ok.is,
      payload-is packet t.payload (header_length packet) fields.payload_start fields.payload_length c.in-Ok.ensures.spelled.whole c.in-Ok.ensures.spelled.payload
          (ap (λ (x : TlpFields). x.payload_start) c.fields_of.ensures ∙ ap (λ (bytes : List ℕ). length packet - length bytes) lent)
          (ap (λ (x : TlpFields). x.payload_length) c.fields_of.ensures),
    )
