use Rattle.std.proofs.Common.{◌∙◌, ap, sym, arith, get_or}
use Rattle.history_words.specs.declared.record.RecordOf.TheVariants as records
use Rattle.log_pieces.specs.Pieces.{pieces}
use Rattle.log_pieces.proofs.RowLemmas.{sub_records, sub_rows, answer_records, answer_rows, on_ok}
use Rattle.log_pieces.proofs.splitting.add.Goals as goal

pub returns-in_ok-ops-in-Sub-clause-records : goal.returns-in_ok-ops-in-Sub-clause-records
returns-in_ok-ops-in-Sub-clause-records c = on_ok c.submit.result c.submit.ensures.records (λ grown before known.
    let p = pieces c.args.cut.now.bytes c.args.cut.now.extent in
    let rows = c.args.rows.now in
    let d = c.index-rows-from.result in
    sub_records p rows before c.in-Sub.requester c.in-Sub.number c.in-Sub.n c.in-Sub.op (get_or rows c.from.result d) d c.args.item c.deref.result.now
    c.args.records.now c.submit.new.records known (grind (arith, c.well_formed, c.in-Sub.is)) (ap (λ i. get_or rows i d) c.from.ensures) c.in-Sub.is
    (c.deref.ensures.value ∙ c.in_ok-ops-in-Sub.ensures) grown)

pub returns-in_ok-ops-in-Sub-clause-rows : goal.returns-in_ok-ops-in-Sub-clause-rows
returns-in_ok-ops-in-Sub-clause-rows c = on_ok c.submit.result c.submit.ensures.row (λ grown before known.
    let p = pieces c.args.cut.now.bytes c.args.cut.now.extent in
    let rows = c.args.rows.now in
    let d = c.index-rows-from.result in
    let row = get_or rows c.from.result d in
    sub_rows p rows before c.from.result c.in-Sub.number c.in-Sub.n c.in-Sub.op row d c.submit.new.row c.args.item c.deref.result.now
    known (grind (arith, c.well_formed, c.in-Sub.is, c.from.ensures)) (ap (λ i. get_or rows i d) (c.from.ensures ∙ sym c.from.ensures)) (c.in-Sub.is ∙ ap (λ i. records.Sub i c.in-Sub.number c.in-Sub.op c.in-Sub.n) (sym c.from.ensures))
    (c.deref.ensures.value ∙ c.in_ok-ops-in-Sub.ensures) grown)

pub returns-in-Ans-clause-records : goal.returns-in-Ans-clause-records
returns-in-Ans-clause-records c = on_ok c.answer.result c.answer.ensures (λ grown before known.
    let p = pieces c.args.cut.now.bytes c.args.cut.now.extent in
    let rows = c.args.rows.now in
    let d = c.index-rows-from-in-Ans.result in
    answer_records p rows before c.in-Ans.requester c.in-Ans.number c.in-Ans.n c.in-Ans.reply (get_or rows c.from-in-Ans.result d) d c.args.item
    c.args.records.now c.answer.new.records known (grind (arith, c.well_formed, c.in-Ans.is)) (ap (λ i. get_or rows i d) c.from-in-Ans.ensures) c.in-Ans.is grown)

pub returns-in-Ans-clause-rows : goal.returns-in-Ans-clause-rows
returns-in-Ans-clause-rows c = on_ok c.answer.result c.answer.ensures (λ grown before known.
    let p = pieces c.args.cut.now.bytes c.args.cut.now.extent in
    answer_rows p c.args.rows.now before c.in-Ans.requester c.in-Ans.number c.in-Ans.n c.in-Ans.reply c.args.item known c.in-Ans.is)
