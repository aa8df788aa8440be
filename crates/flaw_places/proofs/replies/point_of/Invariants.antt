use Rattle.std.proofs.Common.{◌≡◌}
use Rattle.history_words.specs.Flaws.{place_of}
use Rattle.history_words.specs.Trace.{is_request}
use Rattle.flaw_places.proofs.ReplyLemmas.{found_from}
use Rattle.flaw_places.proofs.replies.point_of.Given as goal

abbrev pub invariant-loop-index : goal.invariant-loop-index
invariant-loop-index g l =
    let h = (g.C.AsClaim.claim l.claim).memory.entries in
    place_of h l.request.0 l.request.1 ≡ found_from (is_request l.request.0 l.request.1) h l.index
