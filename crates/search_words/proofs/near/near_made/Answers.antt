use Rattle.std.proofs.Common.{◌⊎◌, inl, inr, arith}
use Rattle.std.proofs.lemmas.Bool.{cases_lt}
use Rattle.tlp_core.specs.Operation.{count_of}
use Rattle.search_rules.specs.Idle.{IsJunkBehind}
use Rattle.search_words.specs.Words.{IsNear}
use Rattle.search_words.proofs.NearLemmas.{made_or, by_name}
use Rattle.search_words.proofs.near.near_made.Goals as goal

pub returns-in-Some : goal.returns-in-Some
returns-in-Some c = λ b from to names.
    let x = c.in-Some.ensures in
    elim (made_or c.args.log.now c.args.words.now c.requires.words c.args.made.op.now c.args.made.reply.now b c.args.stretch.word c.in-Some.value x.word x.served x.leaves names c.requires.word) as (λ z. IsNear c.near_by_need.result b ⊎ IsJunkBehind c.args.log.now c.args.made.op.now c.args.made.reply.now b) [
      | inl need ↦ inl (c.near_by_need.ensures.need b from to need)
      | inr (inl (listed, small)) ↦ elim (cases_lt 4 (count_of c.args.made.op.now)) [
        | inl large ↦ inl (c.near_by_need.ensures.careless b (c.careless_beside-careless.ensures (omega (arith, large, c.size.ensures.value)) b from to listed))
        | inr few ↦ inr (small few)
      ]
      | inr (inr junk) ↦ inr junk
    ]

pub returns-in-None : goal.returns-in-None
returns-in-None c = λ b from to names. inl (c.near_by_name.ensures b from to (by_name c.args.log.now c.args.words.now c.requires.words b c.args.stretch.word names c.requires.word))
