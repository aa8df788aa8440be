-- A request that doesn't find what it needs.
use Rattle.std.proofs.Common.{◌≡◌, ◌∙◌, ℕ, ◌+◌, ◌-◌, ◌<◌, ◌≤◌, true, List, length, sym, ap, subst, arith}
use Rattle.std.specs.Prelude.{slice_index, ◌≢◌}
use Rattle.arrayvec.specs.ArrayVec.{ArrayVec}
use Rattle.tlp_core.specs.Ops.{Op}
use Rattle.tlp_core.specs.Operation.{address_of, count_of}
use Rattle.seq_memory.specs.Entries.{Reply}
use Rattle.seq_memory.specs.declared.reply.ReplyOf.TheVariants as replies
use Rattle.seq_memory.specs.Step.{answer}
use Rattle.search_effects.specs.Effects.{is_needed, AreSameAt}
use Rattle.search_effects.proofs.Yielding.{Needed}

pub waits_by : Needed → (base block : ℕ) (m n : List ℕ) (one other : Op) (seen : ArrayVec ℕ) (old : List ℕ) (told : Reply) → old ≡ seen.items → told ≡ replies.Data seen
    → ((at : ℕ) × (base ≤ address_of one) × (address_of other ≤ address_of one + at) × (address_of one + at < address_of other + count_of other) × (at < length old) × (is_needed one at ≡ true) × (slice_index m (address_of one - base + at) ≢ slice_index old at))
    → AreSameAt base other m n → answer base block n one ≡ told → ⊥
waits_by needed base block m n one other seen old told eo et (at, low, front, back, short, need, differ) same e =
    let k = address_of one - base + at in
    let place : base + k ≡ address_of one + at = omega (arith, low) in
    let still : slice_index n k ≡ slice_index m k = same k (omega (arith, place, front)) (omega (arith, place, back)) in
    differ (sym still ∙ needed base block at n one seen need (e ∙ et) (subst (λ (xs : List ℕ). at < length xs) eo short) ∙ sym (ap (λ xs. slice_index xs at) eo))
