-- Requesters of which no record is, record by record.
use Rattle.std.proofs.Common.{◌≡◌, ℕ, zero, suc, ◌+◌, ◌<◌, List, [], ◌∷◌, take, length, sym, subst, arith}
use Rattle.std.specs.Prelude.{slice_get, IfSome, All}
use Rattle.std.proofs.lemmas.List.Elements.{All-append}
use Rattle.log_runs.proofs.Lists.{take_more_at, some_at}
use Rattle.history_words.specs.Records.{Record}
use Rattle.log_faults.specs.Free.{requester_of, IsFree}

one : {X : Type 0} (P : X → Type 0) (x : X) → P x → All P (x ∷ [])
one P x h zero d l = h
one P x h (suc k) d l = absurd (omega (arith, l))

-- the records up to the next one, and with it
pub free_more : (by : ℕ) (rs : List Record) (i : ℕ) → i < length rs → IsFree by (take i rs) → IfSome (slice_get rs i) (λ r. requester_of r ≡ by → ⊥) → IsFree by (take (i + 1) rs)
free_more by rs i l before here =
    let next = some_at rs i l in
    let other : requester_of next.0 ≡ by → ⊥ = subst (λ o. IfSome o (λ r. requester_of r ≡ by → ⊥)) next.1 here in
    subst (IsFree by) (sym (take_more_at rs i next.0 next.1))
    (All-append (λ r. requester_of r ≡ by → ⊥) (take i rs) (next.0 ∷ []) before (one (λ r. requester_of r ≡ by → ⊥) next.0 other))
