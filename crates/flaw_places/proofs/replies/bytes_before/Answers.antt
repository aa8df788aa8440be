use Rattle.std.proofs.Common.{◌≡◌, ◌∙◌, ℕ, length, ap, sym, arith}
use Rattle.std.specs.Prelude.{replicate}
use Rattle.seq_memory.specs.Limits.{Extent}
use Rattle.seq_memory.specs.History.{extent_of}
use Rattle.flaw_places.proofs.ReplyLemmas.{there, contents_none, contents_next, performed, written_back}
use Rattle.flaw_places.proofs.replies.bytes_before.Goals as goal

pub loop-p-init : goal.loop-p-init
loop-p-init g c =
    let x = g.C.AsClaim.claim c.args.claim.now in
    let size : c.size.result ≡ x.memory.size = c.size.ensures.value ∙ ap (λ (x : Extent). x.size) c.extent.ensures in
    c.in_ok-bytes.ensures ∙ ap (λ n. replicate n 0) size ∙ sym (contents_none (extent_of x.memory))

pub loop-p-preserved : goal.loop-p-preserved
loop-p-preserved g c =
    let x = g.C.AsClaim.claim c.args.claim.now in
    let h = x.memory.entries in
    let (e, at) = there h c.loop-p.p (omega (arith, c.requires, c.loop-p-test.true)) in
    let old = c.deref_mut.ensures.value in
    let new = c.replays.new.bytes in
    let same : length new ≡ length c.loop-p.bytes.items = c.replays.auto.bytes ∙ ap (length {A = ℕ}) old in
    let back = written_back c.loop-p.bytes.len c.loop-p.bytes.items new c.loop-p.bytes.ok.0 same in
    back
    ∙ contents_next (extent_of x.memory) h c.loop-p.p e c.deref_mut.result.now new at (old ∙ c.loop-p.invariant) (performed x c.loop-p.p e c.deref_mut.result.now new at c.replays.ensures.bytes)
