use Rattle.std.proofs.Common.{subst, sym}
use Rattle.std.specs.List.Sorted.{IsNonDecreasing}
use Rattle.search_words.proofs.ListLemmas.{all_rise}
use Rattle.search_words.proofs.lists.Lists.between.Goals as goal

pub window-requires : goal.window-requires
window-requires c = subst IsNonDecreasing (sym c.all.ensures) (all_rise c.args.self.now c.requires.0 c.requires.1 c.args.number)
