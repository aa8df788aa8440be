-- Prefixes of a log and of its pieces.
use Rattle.std.proofs.Common.{◌≡◌, ◌∙◌, ℕ, zero, suc, ◌+◌, ◌<◌, ◌≤◌, List, [], length, take, sym, ap, subst, arith, Result, Ok, Err, IfOk}
use Rattle.std.proofs.lemmas.List.{length-take-le}
use Rattle.std.specs.declared.alloc.AllocError.{AllocError}
use Rattle.seq_memory.specs.Limits.{Extent}
use Rattle.history_words.specs.Records.{Record}
use Rattle.history_words.specs.TraceView.{TraceView, observed}
use Rattle.log_runs.specs.Explainable.{IsExplainable, prefix}
use Rattle.log_pieces.specs.declared.Granularity.{Granularity}
use Rattle.log_pieces.specs.declared.Granularity.TheVariants.{Whole}
use Rattle.log_pieces.specs.Pieces.{pieces}
use Rattle.log_pieces.specs.InPieces.{in_pieces, cut_log, split_all, IsExplainableIn}
use Rattle.log_pieces.proofs.RowLemmas.{first_pieces}

abbrev pub Prefixes : Type 0
Prefixes = (t : TraceView) (n : ℕ) → IsExplainable t → IsExplainable (prefix n t)

unexplained_by : Prefixes → (bytes : ℕ) (t : TraceView) (n count : ℕ) → count ≤ length (split_all (pieces bytes (observed t)) [] (take n t.records))
    → (IsExplainable (prefix count (cut_log bytes t)) → ⊥) → IsExplainable (cut_log bytes (prefix n t)) → ⊥
unexplained_by law bytes t n count l refuted e =
    let same = first_pieces (pieces bytes (observed t)) t.records n count l in
    refuted (subst (λ (rs : List Record). IsExplainable (record { base = t.base; size = t.size; block = t.block; records = rs })) (sym same) (law (cut_log bytes (prefix n t)) count e))

-- if each number before i is less so, and i is, then each before i + 1 is
pub less_so_far : (f : ℕ → ℕ) (count i : ℕ) → ((m : ℕ) → m < i → f m < count) → f i < count → (m : ℕ) → m < i + 1 → f m < count
less_so_far f count zero known here zero l = here
less_so_far f count zero known here (suc m) l = absurd (omega arith)
less_so_far f count (suc i) known here zero l = known 0 (omega arith)
less_so_far f count (suc i) known here (suc m) l = less_so_far (λ k. f (suc k)) count i (λ k h. known (suc k) (omega arith)) here m (omega arith)

-- how many pieces the first n records have
abbrev size_in : Granularity → TraceView → ℕ → ℕ
size_in size t n = length (in_pieces size (prefix n t)).records

pub record IsLeast (size : Granularity) (count : ℕ) (t : TraceView) (r : Result ℕ AllocError) : Type 0 where
  pub within : IfOk r (λ n. n ≤ length t.records)
  pub reaches : IfOk r (λ n. count ≤ length (in_pieces size (prefix n t)).records)
  pub least : IfOk r (λ n. (m : ℕ) → m < n → length (in_pieces size (prefix m t)).records < count)
  pub unexplained : IfOk r (λ n. (IsExplainable (prefix count (in_pieces size t)) → ⊥) → IsExplainableIn size (prefix n t) → ⊥)

pub by_reach : Prefixes → (size : Granularity) (bytes count : ℕ) (t : TraceView) (rs : List Record) (r : Result ℕ AllocError) → ((u : TraceView) → in_pieces size u ≡ cut_log bytes u) → rs ≡ t.records
    → IfOk r (λ n. n ≤ length rs) → IfOk r (λ n. count ≤ length (split_all (pieces bytes (observed t)) [] (take n rs)))
    → IfOk r (λ n. (m : ℕ) → m < n → length (split_all (pieces bytes (observed t)) [] (take m rs)) < count)
    → IsLeast size count t r
by_reach law size bytes count t rs (Ok n) is same within reaches least =
    let sized : (m : ℕ) → length (split_all (pieces bytes (observed t)) [] (take m rs)) ≡ size_in size t m =
    λ m. ap (λ (qs : List Record). length (split_all (pieces bytes (observed t)) [] (take m qs))) same ∙ ap (λ (u : TraceView). length u.records) (sym (is (prefix m t))) in
    record {
      within = subst (λ (qs : List Record). n ≤ length qs) same within;
      reaches = subst (λ k. count ≤ k) (sized n) reaches;
      least = λ m l. subst (λ k. k < count) (sized m) (least m l);
      unexplained = λ refuted e. unexplained_by law bytes t n count (subst (λ (qs : List Record). count ≤ length (split_all (pieces bytes (observed t)) [] (take n qs))) same reaches)
          (subst (λ (u : TraceView). IsExplainable (prefix count u) → ⊥) (is t) refuted) (subst IsExplainable (is (prefix n t)) e);
    }
by_reach law size bytes count t rs (Err e) is same within reaches least = record { within = tt; reaches = tt; least = tt; unexplained = tt }

pub reached_by : (size : Granularity) (bytes count : ℕ) (t : TraceView) (x : Extent) (rs : List Record) → in_pieces size t ≡ cut_log bytes t → observed t ≡ x → t.records ≡ rs
    → count ≤ length (in_pieces size t).records → count ≤ length (split_all (pieces bytes x) [] rs)
reached_by size bytes count t x rs is extent same l =
    let long : length (in_pieces size t).records ≡ length (split_all (pieces bytes x) [] rs) =
    ap (λ (u : TraceView). length u.records) is ∙ ap (λ (y : Extent). length (split_all (pieces bytes y) [] t.records)) extent
    ∙ ap (λ (qs : List Record). length (split_all (pieces bytes x) [] qs)) same in
    omega (arith, long, l)

whole_within : (count : ℕ) (t : TraceView) → count ≤ length (in_pieces Whole t).records → count ≤ length t.records
unfolding in_pieces
whole_within count t l = l

whole_unexplained : (count : ℕ) (t : TraceView) → (IsExplainable (prefix count (in_pieces Whole t)) → ⊥) → IsExplainableIn Whole (prefix count t) → ⊥
unfolding in_pieces
whole_unexplained count t refuted e = refuted e

whole_size : (n : ℕ) (t : TraceView) → n ≤ length t.records → size_in Whole t n ≡ n
unfolding in_pieces
whole_size n t l = length-take-le n t.records l

pub by_whole : (size : Granularity) (count : ℕ) (t : TraceView) → size ≡ Whole → count ≤ length (in_pieces size t).records → IsLeast size count t (Ok count)
by_whole size count t e l =
    let few : count ≤ length t.records = whole_within count t (subst (λ (g : Granularity). count ≤ length (in_pieces g t).records) e l) in
    let sized : (m : ℕ) → m ≤ count → size_in size t m ≡ m = λ m h. ap (λ (g : Granularity). size_in g t m) e ∙ whole_size m t (omega (arith, h, few)) in
    record {
      within = few;
      reaches = let here = sized count (omega arith) in omega (arith, here);
      least = λ m h. let here = sized m (omega (arith, h)) in omega (arith, here, h);
      unexplained = subst (λ (g : Granularity). (IsExplainable (prefix count (in_pieces g t)) → ⊥) → IsExplainableIn g (prefix count t) → ⊥) (sym e) (whole_unexplained count t);
    }
