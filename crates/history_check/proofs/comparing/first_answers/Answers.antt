use Rattle.std.proofs.Common.{ℕ, ◌+◌, take, sym, ◌∙◌, subst, List, Option}
use Rattle.std.specs.Prelude.{slice_get}
use Rattle.history_check.proofs.Parts.{sub_read, ans_read, none_read}
use Rattle.history_check.proofs.Floors.{firsts_none, in_firsts, firsts_next_sub, firsts_next_none, firsts_next_ans}
use Rattle.history_words.specs.Lookup.{AreFirsts}
use Rattle.history_check.proofs.comparing.first_answers.Goals.{in-Some-Ans+in-Some, in-Some-Ans+in_default, in-Some-Sub, in-None}
use Rattle.history_check.proofs.comparing.first_answers.Goals as goal

pub loop-a-init : goal.loop-a-init
loop-a-init g c = rw (c.in_ok-firsts.ensures) (firsts_none (g.C.AsClaim.claim c.args.claim.now).records c.records-count.result c.records-count.ensures)

pub set-requires-clause-place : goal.set-requires-clause-place
set-requires-clause-place g c =
    in_firsts c.args.index.now c.loop-a.firsts (g.C.AsClaim.claim c.args.claim.now).records _ c.in-Some-Ans.requester c.in-Some-Ans.number c.in-Some.b c.place.result c.requires c.loop-a.invariant c.place.ensures.row c.place.ensures.value c.in-Some.is

pub loop-a-preserved : goal.loop-a-preserved
loop-a-preserved g c =
    let rs = (g.C.AsClaim.claim c.args.claim.now).records in
    elim c.match-header.branch [
      | in-Some-Ans+in-Some w ↦
          let (reply, at) = ans_read (slice_get rs c.loop-a.a) _ _ _ _ (sym c.header.ensures ∙ w.in-Some-Ans.is) w.in-Some-Ans.field-0-is in
          let inside = in_firsts c.args.index.now c.loop-a.firsts rs _ w.in-Some-Ans.requester w.in-Some-Ans.number w.in-Some.b w.place.result c.requires c.loop-a.invariant w.place.ensures.row w.place.ensures.value w.in-Some.is in
          firsts_next_ans c.loop-a.firsts c.match-header.firsts rs c.loop-a.a w.in-Some-Ans.requester w.in-Some-Ans.number w.in-Some.b reply _ w.get.result w.or.result at
          (sym (c.requires.at w.in-Some-Ans.requester w.in-Some-Ans.number w.place.ensures.row) ∙ sym w.place.ensures.value ∙ w.in-Some.is) (w.get.ensures.read inside) w.or.ensures (w.firsts-is ∙ w.set.ensures) c.loop-a.invariant
      | in-Some-Ans+in_default w ↦
          let (reply, at) = ans_read (slice_get rs c.loop-a.a) _ _ _ _ (sym c.header.ensures ∙ w.in-Some-Ans.is) w.in-Some-Ans.field-0-is in
          subst (λ (v : List (Option ℕ)). AreFirsts v rs (take (c.loop-a.a + 1) rs)) (sym w.firsts-is)
          (firsts_next_none c.loop-a.firsts rs c.loop-a.a _ _ reply _ at (sym (c.requires.at w.in-Some-Ans.requester w.in-Some-Ans.number w.place.ensures.row) ∙ sym w.place.ensures.value ∙ w.in_default.is) c.loop-a.invariant)
      | in-Some-Sub w ↦
          let (op, at, is) = sub_read (slice_get rs c.loop-a.a) _ _ _ _ _ (sym c.header.ensures ∙ w.in-Some-Sub.is) w.in-Some-Sub.field-0-is in
          subst (λ (v : List (Option ℕ)). AreFirsts v rs (take (c.loop-a.a + 1) rs)) (sym w.firsts-is) (firsts_next_sub c.loop-a.firsts rs c.loop-a.a _ _ op _ at c.loop-a.invariant)
      | in-None w ↦ absurd (none_read rs c.loop-a.a c.records-count.result c.records-count.ensures c.loop-a-test.true (sym c.header.ensures ∙ w.in-None.is))
    ]
