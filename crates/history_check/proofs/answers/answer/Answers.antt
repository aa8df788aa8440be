use Rattle.std.proofs.Common.{◌≡◌, length, Option, sym, ◌∙◌, subst, refl, arith}
use Rattle.std.specs.Prelude.{IfSome, slice_get}
use Rattle.history_words.specs.declared.flaws.FlawKind.{FlawKind}
use Rattle.history_words.specs.declared.flaws.FlawKind.TheVariants as flaws
use Rattle.history_words.specs.Flaws.{answer_at}
use Rattle.history_check.proofs.Firsts.{first_at-none, first_at-more, first_at-found, tells}
use Rattle.history_check.proofs.Parts.{sub_read, ans_read, none_read}
use Rattle.history_check.proofs.Judged.{answer-sub, answer-judged}
use Rattle.history_check.proofs.answers.answer.Goals.{in-Some-Ans+in_default, in-Some-Sub, in-None}
use Rattle.history_check.proofs.answers.answer.Goals as goal

pub loop-a-init : goal.loop-a-init
loop-a-init g c = first_at-none (answer_at (g.C.AsClaim.claim c.args.claim.now))

pub returns-in-Some-clause-err : goal.returns-in-Some-clause-err
returns-in-Some-clause-err g c =
    let x = g.C.AsClaim.claim c.args.claim.now in
    let rs = x.records in
    let (reply, at) = ans_read (slice_get rs c.loop-a.a) _ _ _ _ (sym c.header.ensures ∙ c.in-Some-Ans.is) c.in-Some-Ans.field-0-is in
    tells _ _ (first_at-found (answer_at x) c.loop-a.a (length rs) c.in-Some.kind c.loop-a.invariant
    (answer-judged x c.args.index.now rs _ _ _ _ c.loop-a.a c.in-Some-Ans.requester c.in-Some-Ans.number c.in-Some-Ans.n reply c.place-place.result c.judge.result c.requires c.place-place.ensures.row c.place-place.ensures.value at c.judge.ensures.flaw ∙ c.in-Some.is)
    (omega (arith, c.records-a-end.ensures, c.loop-a-test.true))) (subst (λ (o : Option FlawKind). IfSome o (λ kind. kind ≡ flaws.Memory → ⊥)) c.in-Some.is c.judge.ensures.known)

pub loop-a-preserved : goal.loop-a-preserved
loop-a-preserved g c =
    let x = g.C.AsClaim.claim c.args.claim.now in
    let rs = x.records in
    elim c.match-header.branch [
      | in-Some-Ans+in_default w ↦
          let (reply, at) = ans_read (slice_get rs c.loop-a.a) _ _ _ _ (sym c.header.ensures ∙ w.in-Some-Ans.is) w.in-Some-Ans.field-0-is in
          first_at-more (answer_at x) c.loop-a.a c.loop-a.invariant
          (answer-judged x c.args.index.now rs _ _ _ _ c.loop-a.a w.in-Some-Ans.requester w.in-Some-Ans.number w.in-Some-Ans.n reply w.place-place.result w.judge.result c.requires w.place-place.ensures.row w.place-place.ensures.value at w.judge.ensures.flaw ∙ w.in_default.is)
      | in-Some-Sub w ↦
          let (op, at, is) = sub_read (slice_get rs c.loop-a.a) _ _ _ _ _ (sym c.header.ensures ∙ w.in-Some-Sub.is) w.in-Some-Sub.field-0-is in
          first_at-more (answer_at x) c.loop-a.a c.loop-a.invariant (answer-sub x rs c.loop-a.a _ _ _ op refl at)
      | in-None w ↦ absurd (none_read rs c.loop-a.a c.records-a-end.result c.records-a-end.ensures c.loop-a-test.true (sym c.header.ensures ∙ w.in-None.is))
    ]
