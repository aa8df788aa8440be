use Rattle.std.proofs.Common.{◌≡◌, ◌∙◌, ◌+◌, ◌++◌, ◌∷◌, [], List, Some, length, slice_get, take, sym, ap, subst, arith}
use Rattle.history_words.specs.Records.{Record}
use Rattle.history_words.specs.TraceView.{TraceView}
use Rattle.log_runs.proofs.Lists.{take_more_at}
use Rattle.log_pieces.specs.Pieces.{pieces}
use Rattle.log_pieces.specs.InPieces.{split, with_more}
use Rattle.log_pieces.specs.RowView.{RowView, AreRows}
use Rattle.log_pieces.proofs.RowLemmas.{rows_none, pieces_none, pieces_more, pieces_all, refit}
use Rattle.log_pieces.proofs.splitting.cut_log.Goals as goal

pub loop-at-init : goal.loop-at-init
loop-at-init c = record {
  rows = rows_none (pieces c.args.bytes c.extent-extent.result) c.in_ok-table.table.items c.in_ok-table.ensures;
  done = pieces_none c.args.bytes c.extent-extent.result c.args.log.now c.new-pieces.result c.extent-extent.ensures c.new-pieces.ensures;
}

pub loop-at-preserved : goal.loop-at-preserved
loop-at-preserved c =
    let x = c.extent-extent.result in
    let p = pieces c.args.bytes x in
    let rs = c.records-records.result in
    let i = c.loop-at.at in
    let r = c.in-Some.item in
    let at : slice_get rs i ≡ Some r = sym c.get.ensures ∙ c.in-Some.is in
    let grown : take (i + 1) rs ≡ take i rs ++ r ∷ [] = take_more_at rs i r at in
    let before : AreRows p c.deref_mut.result.now (take i rs) = subst (λ (xs : List RowView). AreRows p xs (take i rs)) (sym c.deref_mut.ensures.value) c.loop-at.invariant.rows in
    let rows : AreRows p c.add.new.rows (take i rs ++ r ∷ []) = c.in_ok-add.ensures.rows (take i rs) before in
    let size = refit c.add.new.rows c.loop-at.table.items c.loop-at.table.len (omega (arith, c.in_ok-add.ensures.len, c.loop-at.invariant.rows.len, c.loop-at.table.ok)) in
    record {
      rows = subst (λ (xs : List RowView). AreRows p xs (take (i + 1) rs)) (sym size) (subst (λ (qs : List Record). AreRows p c.add.new.rows qs) (sym grown) rows);
      done = c.in_ok-add.ensures.records (take i rs) before ∙ ap (λ (t : TraceView). with_more t (split p (take i rs) r)) c.loop-at.invariant.done
          ∙ pieces_more c.args.bytes i x rs r c.args.log.now c.extent-extent.ensures c.records-records.ensures at;
    }

pub returns : goal.returns
returns c = c.loop-at.invariant.done ∙ pieces_all c.args.bytes c.loop-at.at c.args.log.now (omega (arith, c.loop-at-test.false, c.loop-at.auto.at-end, c.len-at-end.ensures, ap length c.records-records.ensures))
