use Rattle.std.proofs.Common.{subst}
use Rattle.search_effects.specs.Effects.{told_of}
use Rattle.search_rules.specs.Junk.{IsJunk}
use Rattle.search_rules.proofs.junk.is_junk_by.Goals as goal

pub returns : goal.returns
returns c = λ yes. subst (IsJunk c.args.log.now.extent c.args.bytes.now c.args.one.now (told_of c.args.told)) c.word_of-other.ensures (c.is_junk.ensures yes)
