use Rattle.std.proofs.Common.{◌∙◌, ◌++◌, sym, ap, length, arith, ℕ}
use Rattle.tlp_core.specs.TlpView.{TlpView}
use Rattle.tlp_core.specs.Layout.{canonical}
use Rattle.tlp_core.proofs.Room.{two_parts}
use Rattle.tlp_core.proofs.encoding.encode_lent.Goals as goal

pub returns-clause-bytes : goal.returns-clause-bytes
returns-clause-bytes c =
    let header = c.copy_from_slice.ensures.after ∙ c.deref.ensures.0 in
    let payload = ap (λ (t : TlpView). t.payload) (sym c.tlp.view_is) ∙ sym c.copy_from_slice-2.ensures.after in
    two_parts c.len-start.result (length c.tlp.inside.payload.now) c.copy_from_slice.new.self c.copy_from_slice-2.new.self _ _ (canonical c.args.tlp.now)
    (omega (arith, ap (length {A = ℕ}) header, c.len-start.ensures.value)) (ap (length {A = ℕ}) c.copy_from_slice-2.ensures.after)
    (c.header_bytes-header.ensures.bytes ∙ ap (λ zs. zs ++ c.args.tlp.now.payload) (sym header) ∙ ap (λ zs. c.copy_from_slice.new.self ++ zs) payload)
