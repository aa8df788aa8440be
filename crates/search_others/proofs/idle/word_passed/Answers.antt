use Rattle.std.proofs.Common.{inl, inr}
use Rattle.search_others.specs.Passing.{PassesBehind}
use Rattle.search_others.proofs.idle.word_passed.Goals as goal

pub returns : goal.returns
returns c = λ yes b early late named distinct left.
    elim (c.near_made-near.ensures b early late named) as (λ z. PassesBehind c.args.log.now c.args.place.now.state.event c.args.idler.made.op.now c.args.idler.made.reply.now b) [
      | inl near ↦ c.near_pass.ensures yes b near distinct left
      | inr junk ↦ inl junk
    ]
