-- A log without records has a history, so one that has none has records.
use Rattle.std.proofs.Common.{◌≡◌, ℕ, ◌+◌, ◌-◌, ◌<◌, zero, suc, List, [], take, refl, sym, subst, arith}
use Rattle.history_words.specs.TraceView.{TraceView}
use Rattle.history_words.specs.Records.{Record}
use Rattle.log_runs.specs.Explainable.{IsExplainable, prefix}
use Rattle.log_pieces.specs.declared.Granularity.{Granularity}
use Rattle.log_pieces.specs.declared.Granularity.TheVariants.{Four, Eight, Sixteen, SixtyFour, Whole}
use Rattle.log_pieces.specs.InPieces.{in_pieces, IsExplainableIn}

empty : ℕ → ℕ → ℕ → TraceView
empty base size block = record { base = base; size = size; block = block; records = [] }

empty-explainable : (base size block : ℕ) → IsExplainable (empty base size block)
unfolding empty
empty-explainable base size block = (
  record { base = base; size = size; block = block; records = [] },
  [],
  record { base = refl; size = refl; block = refl; records = tt },
  record { numbered = λ a i k n op e. absurd (cc e); legal = λ p e h. absurd (cc h); linear = λ a i k n reply e. absurd (cc e) },
  record { rises = λ a b r s lt e. absurd (cc e); bounded = λ a r e. absurd (cc e); after_submission = λ p b n e op h. absurd (cc h) },
)

-- it is its own pieces
empty-pieces : (g : Granularity) (base size block : ℕ) → in_pieces g (empty base size block) ≡ empty base size block
unfolding empty in_pieces
empty-pieces Four base size block = refl
empty-pieces Eight base size block = refl
empty-pieces Sixteen base size block = refl
empty-pieces SixtyFour base size block = refl
empty-pieces Whole base size block = refl

none-first : (g : Granularity) (t : TraceView) (records : List Record) → records ≡ [] → IsExplainableIn g (record { base = t.base; size = t.size; block = t.block; records = records })
unfolding empty
none-first g t records e =
    subst (λ (rs : List Record). IsExplainableIn g (record { base = t.base; size = t.size; block = t.block; records = rs })) (sym e)
    (subst IsExplainable (sym (empty-pieces g t.base t.size t.block)) (empty-explainable t.base t.size t.block))

take-none : (rs : List Record) → take 0 rs ≡ []
take-none rs = grind (arith)

-- a prefix without a history has records
pub some-records : (g : Granularity) (t : TraceView) (count : ℕ) → (IsExplainableIn g (prefix count t) → ⊥) → 0 < count
some-records g t zero dead = absurd (dead (none-first g t (take 0 t.records) (take-none t.records)))
some-records g t (suc n) dead = omega arith

-- so up to its last record there is none
pub up_to_last : (g : Granularity) (t : TraceView) (count : ℕ) → 0 < count → (IsExplainableIn g (prefix count t) → ⊥) → IsExplainableIn g (prefix ((count - 1) + 1) t) → ⊥
up_to_last g t count some dead =
    let e : count ≡ (count - 1) + 1 = omega arith in
    subst (λ (n : ℕ). IsExplainableIn g (prefix n t) → ⊥) e dead
