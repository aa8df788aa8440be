use Rattle.std.proofs.Common.{◌⊎◌, inl, inr}
use Rattle.search_rules.specs.Rules.{LetsFirst}
use Rattle.search_words.specs.Words.{IsNear}
use Rattle.search_words.proofs.NearLemmas.{first_or, by_name}
use Rattle.search_words.proofs.near.near_there.Goals as goal

pub returns-in-Some : goal.returns-in-Some
returns-in-Some c = record {
  first = λ b from to names.
      elim (first_or c.args.log.now c.args.words.now c.requires.words c.args.bytes.now b c.args.q c.args.stretch.word c.in-Some.value c.in-Some.ensures.word c.in-Some.ensures.value names c.requires.word) as (λ z. IsNear c.near_by_need.result b ⊎ LetsFirst c.args.log.now c.args.bytes.now b c.args.q) [
        | inl (inl need) ↦ inl (c.near_by_need.ensures.need b from to need)
        | inl (inr listed) ↦ inl (c.near_by_need.ensures.careless b (c.careless_at-careless.ensures b from to listed))
        | inr spares ↦ inr spares
      ];
}

pub returns-in-None : goal.returns-in-None
returns-in-None c = record {
  first = λ b from to names. inl (c.near_by_name.ensures b from to (by_name c.args.log.now c.args.words.now c.requires.words b c.args.stretch.word names c.requires.word));
}
