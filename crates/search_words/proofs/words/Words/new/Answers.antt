use Rattle.std.proofs.Common.{List, ℕ, sym, subst}
use Rattle.search_words.specs.Lists.{RisesTo}
use Rattle.search_words.proofs.ListLemmas.{rises_none}
use Rattle.search_words.proofs.words.Words.new.Goals as goal

pub returns : goal.returns
returns c = λ n. record {
  needed = c.new.ensures n;
  careless = c.new-2.ensures n;
  blind = c.new-3.ensures n;
  left = c.new-4.ensures n;
  loose = c.new-5.ensures n;
  named = c.new-6.ensures n;
  wide = subst (λ (xs : List ℕ). RisesTo xs n) (sym c.new-7.ensures.items) (rises_none n);
}
