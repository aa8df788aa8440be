use Rattle.std.proofs.Common.{◌≡◌, [], length, take, get_or, ℕ, ◌+◌, ◌<◌, sym, ◌∙◌, arith, List, subst}
use Rattle.std.specs.Prelude.{slice_get}
use Rattle.history_words.specs.Flaws.{numbering_at}
use Rattle.history_words.specs.Lookup.{IsIndex}
use Rattle.history_check.proofs.Firsts.{first_at-none, first_at-more, first_at-found, tells}
use Rattle.history_check.proofs.Parts.{sub_read, ans_read, none_read}
use Rattle.history_check.proofs.Tables.{numbering-good, numbering-bad, numbering-ans, indexed_next_sub, indexed_next_ans}
use Rattle.history_check.proofs.index.index_of.Goals.{in-Some-Sub+else-count-number+in-Ok-add, in-Some-Ans, in-None}
use Rattle.history_check.proofs.index.index_of.Goals as goal

pub loop-a-init : goal.loop-a-init
loop-a-init g c = record { indexed = c.in-Ok.ensures; clean = first_at-none (numbering_at (g.C.AsClaim.claim c.args.claim.now).records) }

pub returns-then-count-number-clause-err : goal.returns-then-count-number-clause-err
returns-then-count-number-clause-err g c =
    let rs = (g.C.AsClaim.claim c.args.claim.now).records in
    let (op, at, is) = sub_read (slice_get rs c.loop-a.a) _ _ _ _ _ (sym c.header.ensures ∙ c.in-Some-Sub.is) c.in-Some-Sub.field-0-is in
    let b = c.count.ensures.value in
    let d = c.if-count-number.true in
    tells _ _ (first_at-found (numbering_at rs) c.loop-a.a (length rs) _ c.loop-a.invariant.clean
    (numbering-bad c.loop-a.index rs c.loop-a.a _ _ _ _ at c.loop-a.invariant.indexed c.count.ensures.row (λ e. d (b ∙ sym e))) (omega (arith, c.records-a-end.ensures, c.loop-a-test.true))) (λ e. cc)

pub loop-a-preserved : goal.loop-a-preserved
loop-a-preserved g c =
    let rs = (g.C.AsClaim.claim c.args.claim.now).records in
    elim c.match-header.branch [
      | in-Some-Sub+else-count-number+in-Ok-add w ↦
          let (op, at, is) = sub_read (slice_get rs c.loop-a.a) _ _ _ _ _ (sym c.header.ensures ∙ w.in-Some-Sub.is) w.in-Some-Sub.field-0-is in
          let small : w.in-Some-Sub.requester < 256 = w.count.ensures.row in
          let same : w.in-Some-Sub.number ≡ length (get_or c.loop-a.index w.in-Some-Sub.requester []) = sym w.if-count-number.false ∙ w.count.ensures.value in
          record {
            indexed = indexed_next_sub c.loop-a.index c.match-header.index rs c.loop-a.a _ _ _ _ at c.loop-a.invariant.indexed small same (w.index-is ∙ w.in-Ok-add.ensures);
            clean = first_at-more (numbering_at rs) c.loop-a.a c.loop-a.invariant.clean
                (numbering-good c.loop-a.index rs c.loop-a.a _ _ _ _ at c.loop-a.invariant.indexed small same);
          }
      | in-Some-Ans w ↦
          let (reply, at) = ans_read (slice_get rs c.loop-a.a) _ _ _ _ (sym c.header.ensures ∙ w.in-Some-Ans.is) w.in-Some-Ans.field-0-is in
          record {
            indexed = subst (λ (rows : List (List ℕ)). IsIndex rows (take (c.loop-a.a + 1) rs)) (sym w.index-is) (indexed_next_ans c.loop-a.index rs c.loop-a.a _ _ _ _ at c.loop-a.invariant.indexed);
            clean = first_at-more (numbering_at rs) c.loop-a.a c.loop-a.invariant.clean (numbering-ans rs c.loop-a.a _ _ _ _ at);
          }
      | in-None w ↦ absurd (none_read rs c.loop-a.a c.records-a-end.result c.records-a-end.ensures c.loop-a-test.true (sym c.header.ensures ∙ w.in-None.is))
    ]
