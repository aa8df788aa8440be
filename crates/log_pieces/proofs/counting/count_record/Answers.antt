use Rattle.std.proofs.Common.{◌∙◌, ◌+◌, ◌++◌, ◌∷◌, [], ℕ, ap, sym, arith, get_or, refl}
use Rattle.std.proofs.lemmas.Result.{IfOk-weaker}
use Rattle.history_words.specs.declared.record.RecordOf.TheVariants as records
use Rattle.log_pieces.specs.Pieces.{pieces}
use Rattle.log_pieces.proofs.EndLemmas.{sub_count, answer_count}
use Rattle.log_pieces.proofs.RowLemmas.{sub_rows, answer_rows, on_ok}
use Rattle.log_pieces.proofs.counting.count_record.Goals as goal

pub returns-in-Sub-clause-count : goal.returns-in-Sub-clause-count
returns-in-Sub-clause-count c = IfOk-weaker c.count_submission.result _ _ (λ count counted before known.
    counted ∙ c.count-pieces.ensures
    ∙ sym (sub_count (pieces c.args.cut.now.bytes c.args.cut.now.extent) before c.in-Sub.requester c.in-Sub.number c.in-Sub.n c.in-Sub.op c.args.item c.in-Sub.is)) c.count_submission.ensures.count

pub returns-in-Sub-clause-rows : goal.returns-in-Sub-clause-rows
returns-in-Sub-clause-rows c = on_ok c.count_submission.result c.count_submission.ensures.row (λ grown before known.
    let p = pieces c.args.cut.now.bytes c.args.cut.now.extent in
    let rows = c.args.rows.now in
    let d = c.index-rows-from.result in
    let row = get_or rows c.from.result d in
    sub_rows p rows before c.from.result c.in-Sub.number c.in-Sub.n c.in-Sub.op row d c.count_submission.new.row c.args.item (p c.in-Sub.op)
    known (grind (arith, c.well_formed, c.in-Sub.is, c.from.ensures)) (ap (λ i. get_or rows i d) (c.from.ensures ∙ sym c.from.ensures)) (c.in-Sub.is ∙ ap (λ i. records.Sub i c.in-Sub.number c.in-Sub.op c.in-Sub.n) (sym c.from.ensures))
    refl (grown ∙ ap (λ (n : ℕ). record { next = row.next + n; requests = row.requests ++ (row.next, c.in-Sub.op) ∷ [] }) c.count-pieces.ensures))

pub returns-in-Ans-clause-count : goal.returns-in-Ans-clause-count
returns-in-Ans-clause-count c = λ before known.
    let p = pieces c.args.cut.now.bytes c.args.cut.now.extent in
    let rows = c.args.rows.now in
    let d = c.index-rows-from-in-Ans.result in
    answer_count p rows before c.in-Ans.requester c.in-Ans.number c.in-Ans.n c.in-Ans.reply (get_or rows c.from-in-Ans.result d) d c.args.item c.count_answer.result
    known (grind (arith, c.well_formed, c.in-Ans.is)) (ap (λ i. get_or rows i d) c.from-in-Ans.ensures) c.in-Ans.is c.count_answer.ensures

pub returns-in-Ans-clause-rows : goal.returns-in-Ans-clause-rows
returns-in-Ans-clause-rows c = λ before known.
    answer_rows (pieces c.args.cut.now.bytes c.args.cut.now.extent) c.args.rows.now before c.in-Ans.requester c.in-Ans.number c.in-Ans.n c.in-Ans.reply c.args.item known c.in-Ans.is
