use Rattle.std.proofs.Common.{◌≡◌, slice_get, length, Option, Some, refl, sym, ap, subst, ◌∙◌}
use Rattle.seq_memory.specs.Entries.{Entry}
use Rattle.seq_memory.specs.Step.{answer}
use Rattle.history_words.specs.Claim as claims
use Rattle.history_words.specs.Flaws.{some_and}
use Rattle.history_words.specs.Headers.{replays_at}
use Rattle.history_words.specs.Lookup.{is_told_at}
use Rattle.history_words.proofs.Claims.{read_at}
use Rattle.std.proofs.lemmas.Bool.{ltb-true}
use Rattle.history_words.proofs.claim.ClaimAsClaim.replays.Goals as goal

pub returns-clause-told : goal.returns-clause-told
returns-clause-told c =
    let t = c.self.inside.trace.now in
    let at : slice_get c.self.inside.history.now c.args.index ≡ Some c.in-Some.entry.now = read_at c.self.inside.history.now c.args.index c.in-Some.entry.now c.in-Some.entry.now (ltb-true c.args.index (length c.self.inside.history.now) (sym c.in-Some.ensures.lookup.0)) c.in-Some.ensures.lookup.1 refl in
    subst (λ (x : claims.Claim). c.compare.result ≡ replays_at x c.args.index c.args.place c.args.bytes.now) c.self.view_is
    (c.compare.ensures.told ∙ sym (ap (λ (o : Option Entry). some_and o (λ e. is_told_at t.records c.args.place (answer t.base t.block c.args.bytes.now e.op))) at))
