use Rattle.std.proofs.Common.{◌≡◌, ◌∙◌, ℕ, ◌+◌, ◌<◌, ◌++◌, ◌∷◌, [], List, Some, length, slice_get, take, sym, ap, subst, arith, refl}
use Rattle.log_runs.proofs.Lists.{take_more_at}
use Rattle.history_words.specs.Records.{Record}
use Rattle.log_pieces.specs.Pieces.{pieces}
use Rattle.log_pieces.specs.InPieces.{split_all}
use Rattle.log_pieces.specs.RowView.{RowView, AreRows}
use Rattle.log_pieces.proofs.EndLemmas.{one_more, counted_more}
use Rattle.log_pieces.proofs.RowLemmas.{rows_none, refit}
use Rattle.log_pieces.proofs.counting.ends.Goals as goal

pub loop-at-init : goal.loop-at-init
loop-at-init c = record {
  rows = rows_none (pieces c.args.cut.now.bytes c.args.cut.now.extent) c.in_ok-table.table.items c.in_ok-table.ensures;
  done = refl;
  len = ap length c.new-ends.ensures.items;
  each = λ a l. absurd (omega (arith, l));
}

pub loop-at-preserved : goal.loop-at-preserved
loop-at-preserved c =
    let p = pieces c.args.cut.now.bytes c.args.cut.now.extent in
    let rs = c.args.records.now in
    let i = c.loop-at.at in
    let r = c.in-Some.item in
    let known = c.loop-at.invariant in
    let old = c.loop-at.ends.items in
    let grown : take (i + 1) rs ≡ take i rs ++ r ∷ [] = take_more_at rs i r (sym c.get.ensures ∙ c.in-Some.is) in
    let before : AreRows p c.deref_mut.result.now (take i rs) = subst (λ (xs : List RowView). AreRows p xs (take i rs)) (sym c.deref_mut.ensures.value) known.rows in
    let rows : AreRows p c.count_record.new.rows (take i rs ++ r ∷ []) = c.in_ok-more.ensures.rows (take i rs) before in
    let size = refit c.count_record.new.rows c.loop-at.table.items c.loop-at.table.len (omega (arith, c.in_ok-more.ensures.len, known.rows.len, c.loop-at.table.ok)) in
    let done : c.in_ok-all.all ≡ length (split_all p [] (take (i + 1) rs)) =
    c.in_ok-all.ensures ∙ counted_more p (take i rs) (take (i + 1) rs) r c.loop-at.so_far c.in_ok-more.more grown known.done (c.in_ok-more.ensures.count (take i rs) before) in
    let f : ℕ → ℕ = λ k. length (split_all p [] (take (k + 1) rs)) in
    let pushed : c.push.new.self.items ≡ old ++ c.in_ok-all.all ∷ [] = c.in_ok-push.ensures.items in
    let each : (a : ℕ) → a < length old + 1 → slice_get (old ++ c.in_ok-all.all ∷ []) a ≡ Some (f a) =
    one_more old f c.in_ok-all.all (done ∙ ap f (sym known.len)) (λ a l. known.each a (omega (arith, l, known.len))) in
    record {
      rows = subst (λ (xs : List RowView). AreRows p xs (take (i + 1) rs)) (sym size) (subst (λ (qs : List Record). AreRows p c.count_record.new.rows qs) (sym grown) rows);
      done = done;
      len = let more = ap length pushed in grind (arith, more, known.len);
      each = λ a l. ap (λ (xs : List ℕ). slice_get xs a) pushed ∙ each a (omega (arith, l, known.len));
    }
