-- Where the pieces of each record end.
use Rattle.std.proofs.Common.{◌≡◌, ◌∙◌, ℕ, suc, zero, ◌+◌, ◌<◌, ◌++◌, ◌∷◌, [], List, Some, length, slice_get, take, get_or, sym, ap, arith, length-append}
use Rattle.std.specs.Prelude.{◌==◌}
use Rattle.tlp_core.specs.Ops.{Op}
use Rattle.seq_memory.specs.Entries.{Reply}
use Rattle.history_words.specs.Trace.{submissions}
use Rattle.history_words.specs.declared.record.RecordOf.TheVariants as records
use Rattle.history_words.specs.Records.{Record}
use Rattle.history_words.specs.TraceView.{TraceView, observed}
use Rattle.seq_memory.specs.Limits.{Extent}
use Rattle.log_runs.specs.Explainable.{prefix}
use Rattle.log_pieces.specs.declared.Granularity.{Granularity}
use Rattle.log_pieces.specs.Pieces.{pieces}
use Rattle.op_pieces.specs.Pieces.{parts}
use Rattle.log_pieces.specs.InPieces.{in_pieces, cut_log, width, next_number, answers_by, split, split_all}
use Rattle.log_pieces.specs.RowView.{RowView, AreRows}
use Rattle.log_pieces.proofs.PieceLemmas.{many_parts}
use Rattle.log_pieces.proofs.RowLemmas.{row_there, split_more}
use Rattle.log_pieces.proofs.Shapes.{length_subs, length_answers}

pub one_more : (xs : List ℕ) (f : ℕ → ℕ) (v : ℕ) → v ≡ f (length xs) → ((a : ℕ) → a < length xs → slice_get xs a ≡ Some (f a))
    → (a : ℕ) → a < length xs + 1 → slice_get (xs ++ v ∷ []) a ≡ Some (f a)
one_more [] f v is known zero l = ap Some is
one_more [] f v is known (suc a) l = absurd (omega arith)
one_more (x ∷ xs) f v is known zero l = known 0 (omega arith)
one_more (x ∷ xs) f v is known (suc a) l = one_more xs (λ k. f (suc k)) v is (λ k m. known (suc k) (omega arith)) a (omega arith)

-- the pieces of the first records are the first pieces
pub of_prefixes : (size : Granularity) (bytes : ℕ) (t : TraceView) (x : Extent) (rs : List Record) (ends : List ℕ) → ((u : TraceView) → in_pieces size u ≡ cut_log bytes u)
    → x ≡ observed t → rs ≡ t.records → ((a : ℕ) → a < length rs → slice_get ends a ≡ Some (length (split_all (pieces bytes x) [] (take (a + 1) rs))))
    → (a : ℕ) → a < length t.records → slice_get ends a ≡ Some (length (in_pieces size (prefix (a + 1) t)).records)
of_prefixes size bytes t x rs ends is extent same known a l =
    let here : a < length rs = omega (arith, ap length same, l) in
    known a here ∙ ap (λ (y : Extent). Some (length (split_all (pieces bytes y) [] (take (a + 1) rs)))) extent
    ∙ ap (λ (qs : List Record). Some (length (split_all (pieces bytes (observed t)) [] (take (a + 1) qs)))) same
    ∙ ap (λ (u : TraceView). Some (length u.records)) (sym (is (prefix (a + 1) t)))

-- ---- how many pieces a record has

pub some_answers : (p : Op → List Op) (k : ℕ) (op : Op) (i next n : ℕ) (reply : Reply) → length (answers_by p (Some (k, op)) i next n reply) ≡ length (p op)
some_answers p k op i next n reply = length_answers i k n (parts (p op) reply) ∙ many_parts (p op) reply

pub sub_count : (p : Op → List Op) (rs : List Record) (i k n : ℕ) (op : Op) (item : Record) → item ≡ records.Sub i k op n → length (split p rs item) ≡ length (p op)
sub_count p rs i k n op item is =
    ap (λ (r : Record). length (split p rs r)) is
    ∙ length_subs i (next_number (k == length (submissions rs i)) (width p (submissions rs i))) n (p op)

pub answer_count : (p : Op → List Op) (rows : List RowView) (rs : List Record) (i k n : ℕ) (reply : Reply) (row d : RowView) (item : Record) (count : ℕ)
    → AreRows p rows rs → i < 256 → row ≡ get_or rows i d → item ≡ records.Ans i k reply n
    → ((j next m : ℕ) (r : Reply) → count ≡ length (answers_by p (slice_get row.requests k) j next m r)) → count ≡ length (split p rs item)
answer_count p rows rs i k n reply row d item count known small at is counted =
    let there = row_there p rows rs i row d known small at in
    counted i (width p (submissions rs i)) n reply
    ∙ ap (λ (r : RowView). length (answers_by p (slice_get r.requests k) i (width p (submissions rs i)) n reply)) there
    ∙ ap (λ (r : Record). length (split p rs r)) (sym is)

pub counted_more : (p : Op → List Op) (rs qs : List Record) (r : Record) (so_far more : ℕ) → qs ≡ rs ++ r ∷ [] → so_far ≡ length (split_all p [] rs) → more ≡ length (split p rs r)
    → so_far + more ≡ length (split_all p [] qs)
counted_more p rs qs r so_far more grown known counted =
    let longer : length (split_all p [] qs) ≡ length (split_all p [] rs) + length (split p rs r) =
    ap (λ (xs : List Record). length (split_all p [] xs)) grown ∙ ap length (split_more p [] rs r) ∙ length-append (split_all p [] rs) (split p rs r) in
    omega (arith, longer, known, counted)
