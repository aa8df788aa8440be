use Rattle.std.proofs.Common.{◌∙◌, sym, arith}
use Rattle.history_words.specs.Trace.{is_request}
use Rattle.flaw_places.proofs.ReplyLemmas.{there, from_first, from_next, from_here}
use Rattle.flaw_places.proofs.replies.point_of.Goals as goal

pub loop-index-init : goal.loop-index-init
loop-index-init g c =
    from_first (is_request c.args.request.0 c.args.request.1) (g.C.AsClaim.claim c.args.claim.now).memory.entries

pub loop-index-preserved : goal.loop-index-preserved
loop-index-preserved g c =
    let h = (g.C.AsClaim.claim c.args.claim.now).memory.entries in
    let (e, at) = there h c.loop-index.index (omega (arith, c.entries-index-end.ensures, c.loop-index-test.true)) in
    c.loop-index.invariant
    ∙ from_next (is_request c.args.request.0 c.args.request.1) h c.loop-index.index e at (sym c.is_at.ensures ∙ c.if-is_at.false)

pub returns-then-is_at : goal.returns-then-is_at
returns-then-is_at g c =
    let h = (g.C.AsClaim.claim c.args.claim.now).memory.entries in
    let (e, at) = there h c.loop-index.index (omega (arith, c.entries-index-end.ensures, c.loop-index-test.true)) in
    sym (c.loop-index.invariant
    ∙ from_here (is_request c.args.request.0 c.args.request.1) h c.loop-index.index e at (sym c.is_at.ensures ∙ c.if-is_at.true))
