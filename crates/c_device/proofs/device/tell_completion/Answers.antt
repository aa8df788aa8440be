use Rattle.std.proofs.Common.{◌∙◌, ℕ, ◌+◌, ◌-◌, List, ◌++◌, length, sym, ap, arith}
use Rattle.tlp_core.specs.TlpView.{TlpView}
use Rattle.tlp_core.specs.Layout.{canonical}
use Rattle.c_device.proofs.Parts.{laid}
use Rattle.c_device.proofs.device.tell_completion.Goals as goal

pub returns-then-put_completion_header-clause-buffer : goal.returns-then-put_completion_header-clause-buffer
returns-then-put_completion_header-clause-buffer c =
    let header = c.copy_from_slice.new.self in
    let payload = c.copy_from_slice-then-put_completion_header.new.self in
    let room = c.put_completion_header.new.room in
    let lent = c.completion.inside.payload.now in
    let view = ap (λ (t : TlpView). t.payload) c.completion.view_is in
    laid header payload c.args.buffer.now (canonical c.args.completion.now) (12 + length lent - 12)
    (omega (arith, ap (length {A = ℕ}) c.copy_from_slice.ensures.after, c.put_completion_header.array_long))
    (omega (arith, ap (length {A = ℕ}) c.copy_from_slice-then-put_completion_header.ensures.after))
    (c.put_completion_header.ensures.bytes c.if-put_completion_header.true
    ∙ ap (λ (p : List ℕ). room ++ p) (sym (c.copy_from_slice-then-put_completion_header.ensures.after ∙ view))
    ∙ ap (λ (h : List ℕ). h ++ payload) (sym c.copy_from_slice.ensures.after))
