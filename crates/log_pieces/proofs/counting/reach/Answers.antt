use Rattle.std.proofs.Common.{◌≡◌, ◌∙◌, ◌+◌, ◌++◌, ◌∷◌, [], List, take, length, sym, ap, subst, arith, refl}
use Rattle.std.proofs.Math.Seq.{take-length}
use Rattle.log_runs.proofs.Lists.{take_more_at}
use Rattle.history_words.specs.Records.{Record}
use Rattle.log_pieces.specs.Pieces.{pieces}
use Rattle.log_pieces.specs.InPieces.{split_all}
use Rattle.log_pieces.specs.RowView.{RowView, AreRows}
use Rattle.log_pieces.proofs.EndLemmas.{counted_more}
use Rattle.log_pieces.proofs.RowLemmas.{rows_none, refit}
use Rattle.log_pieces.proofs.PrefixLemmas.{less_so_far}
use Rattle.log_pieces.proofs.counting.reach.Goals as goal

pub loop-at-init : goal.loop-at-init
loop-at-init c = record {
  rows = rows_none (pieces c.args.cut.now.bytes c.args.cut.now.extent) c.in_ok-table.table.items c.in_ok-table.ensures;
  done = refl;
  least = λ m l. absurd (omega arith);
}

pub loop-at-preserved : goal.loop-at-preserved
loop-at-preserved c =
    let p = pieces c.args.cut.now.bytes c.args.cut.now.extent in
    let rs = c.args.records.now in
    let i = c.loop-at.at in
    let r = c.in-Some.item in
    let known = c.loop-at.invariant in
    let grown : take (i + 1) rs ≡ take i rs ++ r ∷ [] = take_more_at rs i r (sym c.get.ensures ∙ c.in-Some.is) in
    let before : AreRows p c.deref_mut.result.now (take i rs) = subst (λ (xs : List RowView). AreRows p xs (take i rs)) (sym c.deref_mut.ensures.value) known.rows in
    let rows : AreRows p c.count_record.new.rows (take i rs ++ r ∷ []) = c.in_ok-more.ensures.rows (take i rs) before in
    let size = refit c.count_record.new.rows c.loop-at.table.items c.loop-at.table.len (omega (arith, c.in_ok-more.ensures.len, known.rows.len, c.loop-at.table.ok)) in
    record {
      rows = subst (λ (xs : List RowView). AreRows p xs (take (i + 1) rs)) (sym size) (subst (λ (qs : List Record). AreRows p c.count_record.new.rows qs) (sym grown) rows);
      done = c.in_ok-all.ensures ∙ counted_more p (take i rs) (take (i + 1) rs) r c.loop-at.so_far c.in_ok-more.more grown known.done (c.in_ok-more.ensures.count (take i rs) before);
      least = less_so_far (λ m. length (split_all p [] (take m rs))) c.args.count i known.least (omega (arith, c.if-count-so_far.false, known.done));
    }

pub returns-clause-reaches : goal.returns-clause-reaches
returns-clause-reaches c =
    let p = pieces c.args.cut.now.bytes c.args.cut.now.extent in
    let rs = c.args.records.now in
    let same : length (split_all p [] (take c.len.result rs)) ≡ length (split_all p [] rs) =
    ap (λ k. length (split_all p [] (take k rs))) c.len.ensures ∙ ap (λ (qs : List Record). length (split_all p [] qs)) (take-length rs) in
    omega (arith, c.requires.reached, same)
