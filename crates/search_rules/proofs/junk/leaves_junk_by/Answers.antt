use Rattle.std.proofs.Common.{subst}
use Rattle.search_effects.specs.Effects.{told_of}
use Rattle.search_rules.specs.Junk.{LeavesJunk}
use Rattle.search_rules.proofs.junk.leaves_junk_by.Goals as goal

pub returns : goal.returns
returns c = λ yes.
    let (l, third, had, at, junk) = c.leaves_junk_behind.ensures yes in
    (l, third, had, at, subst (λ z. LeavesJunk c.args.log.now.extent c.args.one.now (told_of c.args.told) z third had) c.word_of-other.ensures junk)
