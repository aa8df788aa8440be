-- What a request does to another's reply.
use Rattle.std.proofs.Common.{◌≡◌, ◌∙◌, ◌⊎◌, inl, inr, ℕ, ◌+◌, ◌-◌, ◌<◌, ◌≤◌, true, List, length, Option, Some, None, refl, sym, ap, subst, arith}
use Rattle.std.specs.Prelude.{slice_index, ◌≢◌}
use Rattle.arrayvec.specs.ArrayVec.{ArrayVec}
use Rattle.tlp_core.specs.Ops.{Op}
use Rattle.tlp_core.specs.declared.operation.OpOf.TheVariants as ops
use Rattle.tlp_core.specs.Operation.{address_of, count_of}
use Rattle.seq_memory.specs.declared.Refusal.{Refusal}
use Rattle.seq_memory.specs.declared.Refusal.TheVariants as refusals
use Rattle.seq_memory.specs.Entries.{Reply}
use Rattle.seq_memory.specs.declared.reply.ReplyOf.TheVariants as replies
use Rattle.seq_memory.specs.Step.{bytes_at, read_back, answer, answer_by, after, refusal}
use Rattle.search_effects.specs.Effects.{Agrees, AreApart, AreSameAt, is_needed, is_put}
use Rattle.search_effects.proofs.Places.{inside, data_served}
use Rattle.search_effects.proofs.Apart.{Sizes, Refused, served_or_not}

-- two places of the same address
same_place : (base a i b k : ℕ) → base ≤ a → base ≤ b → a + i ≡ b + k → a - base + i ≡ b - base + k
same_place base a i b k la lb e = omega (arith, la, lb, e)

abbrev pub Needed : Type 0
Needed = (base block at : ℕ) (m : List ℕ) (op : Op) (d : ArrayVec ℕ) → is_needed op at ≡ true → answer base block m op ≡ replies.Data d → at < length d.items → slice_index m (address_of op - base + at) ≡ slice_index d.items at

-- who gets data lies in the memory
low_of : (base block : ℕ) (m : List ℕ) (op : Op) (d : ArrayVec ℕ) → answer base block m op ≡ replies.Data d → base ≤ address_of op
low_of base block m op d e =
    (inside base block (length m) op (data_served (refusal base (length m) block op) (read_back op (bytes_at m (address_of op - base) (count_of op))) d e).0).0

-- the first leaves another byte than the second needs
pub broken : Needed → (base block : ℕ) (m n : List ℕ) (one other : Op) (new : List ℕ) (need : ArrayVec ℕ) (i at : ℕ)
    → (slice_index (after base block m one) (address_of one - base + i) ≡ slice_index new i) → refusal base (length m) block one ≡ None
    → AreSameAt base one (after base block m one) n → i < count_of one
    → address_of one + i ≡ address_of other + at → is_needed other at ≡ true → at < length need.items → slice_index new i ≢ slice_index need.items at
    → answer base block n other ≡ replies.Data need → ⊥
broken needed base block m n one other new need i at left served kept inner same there short differ e =
    let low : base ≤ address_of one = (inside base block (length m) one served).0 in
    let place = same_place base (address_of one) i (address_of other) at low (low_of base block n other need e) same in
    let still : slice_index n (address_of one - base + i) ≡ slice_index (after base block m one) (address_of one - base + i) = kept (address_of one - base + i) (omega (arith, low)) (omega (arith, low, inner)) in
    differ (sym left ∙ sym still ∙ ap (slice_index n) place ∙ needed base block at n other need there e short)

-- they need different bytes
pub clashing : Needed → (base block : ℕ) (m : List ℕ) (one other : Op) (old need : ArrayVec ℕ) (i at : ℕ)
    → address_of one + i ≡ address_of other + at → is_needed one i ≡ true → i < length old.items → is_needed other at ≡ true → at < length need.items → slice_index old.items i ≢ slice_index need.items at
    → answer base block m one ≡ replies.Data old → answer base block m other ≡ replies.Data need → ⊥
clashing needed base block m one other old need i at same here first there short differ e f =
    let place = same_place base (address_of one) i (address_of other) at (low_of base block m one old e) (low_of base block m other need f) same in
    differ (sym (needed base block i m one old here e first) ∙ ap (slice_index m) place ∙ needed base block at m other need there f short)

pub broken_by : Needed → (base block : ℕ) (m n : List ℕ) (one other : Op) (told : Option Reply) (left new : List ℕ) (asked : ArrayVec ℕ) (need : List ℕ) (reply : Reply)
    → ((at : ℕ) (m : List ℕ) → at < length left → is_put one at ≡ true → refusal base (length m) block one ≡ None → Agrees base block m one told → slice_index (after base block m one) (address_of one - base + at) ≡ slice_index left at)
    → new ≡ left → need ≡ asked.items → reply ≡ replies.Data asked
    → ((at : ℕ) × (i : ℕ) × (address_of one + i ≡ address_of other + at) × (i < length new) × (is_put one i ≡ true) × (at < length need) × (is_needed other at ≡ true) × (slice_index new i ≢ slice_index need at) × (i < count_of one))
    → refusal base (length m) block one ≡ None → Agrees base block m one told → AreSameAt base one (after base block m one) n → answer base block n other ≡ reply → ⊥
broken_by needed base block m n one other told left new asked need reply leaves en ed er (at, i, same, inside, put, short, there, differ, inner) served agrees kept e =
    let first : slice_index (after base block m one) (address_of one - base + i) ≡ slice_index new i =
    leaves i m (subst (λ (xs : List ℕ). i < length xs) en inside) put served agrees ∙ sym (ap (λ xs. slice_index xs i) en) in
    broken needed base block m n one other new asked i at first served kept inner same there (subst (λ (xs : List ℕ). at < length xs) ed short)
    (λ f. differ (f ∙ sym (ap (λ xs. slice_index xs at) ed))) (e ∙ er)

pub clashing_by : Needed → (base block : ℕ) (m : List ℕ) (one other : Op) (seen : ArrayVec ℕ) (old : List ℕ) (asked : ArrayVec ℕ) (need : List ℕ) (told reply : Reply)
    → old ≡ seen.items → need ≡ asked.items → told ≡ replies.Data seen → reply ≡ replies.Data asked
    → ((at : ℕ) × (i : ℕ) × (address_of one + i ≡ address_of other + at) × (i < length old) × (is_needed one i ≡ true) × (at < length need) × (is_needed other at ≡ true) × (slice_index old i ≢ slice_index need at))
    → answer base block m one ≡ told → answer base block m other ≡ reply → ⊥
clashing_by needed base block m one other seen old asked need told reply eo ed et er (at, i, same, inside, here, short, there, differ) e f =
    clashing needed base block m one other seen asked i at same here (subst (λ (xs : List ℕ). i < length xs) eo inside) there (subst (λ (xs : List ℕ). at < length xs) ed short)
    (λ g. differ (ap (λ xs. slice_index xs i) eo ∙ g ∙ sym (ap (λ xs. slice_index xs at) ed))) (e ∙ et) (f ∙ er)

pub kept_by_read : (base block : ℕ) (m : List ℕ) (one other : Op) (reply : Reply) → ((a d f l : ℕ) (n : List ℕ) → after base block n (ops.Read a d f l) ≡ n)
    → ((a : ℕ) × (d : ℕ) × (f : ℕ) × (l : ℕ) × (one ≡ ops.Read a d f l)) → answer base block (after base block m one) other ≡ reply → answer base block m other ≡ reply
kept_by_read base block m one other reply reads (a, d, f, l, is) e =
    ap (λ k. answer base block k other) (sym (ap (after base block m) is ∙ reads a d f l m)) ∙ e

-- the first ends the second's reply, or their order makes no difference
abbrev pub EndsReply : ℕ → ℕ → List ℕ → Op → Op → Option Reply → Reply → Type 0
EndsReply base block m one other told reply =
    (answer base block (after base block m one) other ≡ reply → ⊥)
    ⊎ ((answer base block (after base block m one) other ≡ reply) × Agrees base block (after base block m other) one told × (after base block (after base block m one) other ≡ after base block (after base block m other) one))

pub brings_broken : Refused → (base block : ℕ) (m : List ℕ) (one other : Op) (reply : Reply)
    → (refusal base (length m) block one ≡ None → answer base block (after base block m one) other ≡ reply → ⊥)
    → answer base block (after base block m one) other ≡ reply → answer base block m other ≡ reply
brings_broken refused base block m one other reply breaks e =
    served_or_not (answer base block m other ≡ reply) (refusal base (length m) block one)
    (λ served. absurd (breaks served e))
    (λ r not_served. ap (λ k. answer base block k other) (sym (refused base block m one r not_served)) ∙ e)

-- a served request is answered with data, or it is done
pub never_unsupported : (op : Op) (xs : List ℕ) → read_back op xs ≡ replies.Unsupported → ⊥
never_unsupported (ops.Read a dw f l) xs e = cc
never_unsupported (ops.Write a f l bytes) xs e = cc
never_unsupported (ops.FetchAdd a w x) xs e = cc
never_unsupported (ops.Swap a w x) xs e = cc
never_unsupported (ops.Cas a w x y) xs e = cc

pub never_aborted : (op : Op) (xs : List ℕ) → read_back op xs ≡ replies.Aborted → ⊥
never_aborted (ops.Read a dw f l) xs e = cc
never_aborted (ops.Write a f l bytes) xs e = cc
never_aborted (ops.FetchAdd a w x) xs e = cc
never_aborted (ops.Swap a w x) xs e = cc
never_aborted (ops.Cas a w x y) xs e = cc

-- so one that was answered otherwise changed nothing
pub refused_kept : Refused → (base block : ℕ) (m : List ℕ) (one : Op) (reply : Reply) → ((xs : List ℕ) → read_back one xs ≡ reply → ⊥) → answer base block m one ≡ reply → after base block m one ≡ m
refused_kept refused base block m one reply never e =
    let place = bytes_at m (address_of one - base) (count_of one) in
    served_or_not (after base block m one ≡ m) (refusal base (length m) block one)
    (λ served. absurd (never place (sym (ap (λ o. answer_by o (read_back one place)) served) ∙ e)))
    (λ r not_served. refused base block m one r not_served)

either : (r : Refusal) (x y : Reply) → answer_by (Some r) x ≡ answer_by (Some r) y
either refusals.Aborted x y = refl
either refusals.Unsupported x y = refl

-- who isn't served is answered the same anywhere
same_refused : (base block : ℕ) (m n : List ℕ) (one : Op) (r : Refusal) → length n ≡ length m → refusal base (length m) block one ≡ Some r → answer base block n one ≡ answer base block m one
same_refused base block m n one r size e =
    let in_n : refusal base (length n) block one ≡ Some r = ap (λ z. refusal base z block one) size ∙ e in
    ap (λ o. answer_by o (read_back one (bytes_at n (address_of one - base) (count_of one)))) in_n
    ∙ either r (read_back one (bytes_at n (address_of one - base) (count_of one))) (read_back one (bytes_at m (address_of one - base) (count_of one)))
    ∙ sym (ap (λ o. answer_by o (read_back one (bytes_at m (address_of one - base) (count_of one)))) e)

pub ends_broken : Sizes → Refused → (base block : ℕ) (m : List ℕ) (one other : Op) (told : Option Reply) (reply : Reply)
    → (refusal base (length m) block one ≡ None → answer base block (after base block m one) other ≡ reply → ⊥)
    → Agrees base block m one told → answer base block m other ≡ reply → EndsReply base block m one other told reply
ends_broken sizes refused base block m one other told reply breaks agrees e =
    served_or_not (EndsReply base block m one other told reply) (refusal base (length m) block one)
    (λ served. inl (breaks served))
    (λ r not_served.
    let n = after base block m other in
    let size : length n ≡ length m = sizes base block m other in
    let still : after base block m one ≡ m = refused base block m one r not_served in
    let in_n : refusal base (length n) block one ≡ Some r = ap (λ z. refusal base z block one) size ∙ not_served in
    inr (
      ap (λ k. answer base block k other) still ∙ e,
      λ s told_is. same_refused base block m n one r size not_served ∙ agrees s told_is,
      ap (λ k. after base block k other) still ∙ sym (refused base block n one r in_n),
    ))

-- ---- a request that wasn't served

abbrev WasRefused : Option Reply → Type 0
WasRefused told = (told ≡ Some replies.Unsupported) ⊎ (told ≡ Some replies.Aborted)

never_served : (base block : ℕ) (m : List ℕ) (one : Op) (told : Option Reply) → WasRefused told → Agrees base block m one told → refusal base (length m) block one ≡ None → ⊥
never_served base block m one told (inl is) agrees served =
    let place = bytes_at m (address_of one - base) (count_of one) in
    never_unsupported one place (sym (ap (λ o. answer_by o (read_back one place)) served) ∙ agrees replies.Unsupported is)
never_served base block m one told (inr is) agrees served =
    let place = bytes_at m (address_of one - base) (count_of one) in
    never_aborted one place (sym (ap (λ o. answer_by o (read_back one place)) served) ∙ agrees replies.Aborted is)

pub brings_refused : Refused → (base block : ℕ) (m : List ℕ) (one other : Op) (told : Option Reply) (reply : Reply) → WasRefused told → Agrees base block m one told
    → answer base block (after base block m one) other ≡ reply → answer base block m other ≡ reply
brings_refused refused base block m one other told reply was agrees e =
    brings_broken refused base block m one other reply (λ served there. absurd (never_served base block m one told was agrees served)) e

pub ends_refused : Sizes → Refused → (base block : ℕ) (m : List ℕ) (one other : Op) (told : Option Reply) (reply : Reply) → WasRefused told
    → Agrees base block m one told → answer base block m other ≡ reply → EndsReply base block m one other told reply
ends_refused sizes refused base block m one other told reply was agrees e =
    ends_broken sizes refused base block m one other told reply (λ served there. absurd (never_served base block m one told was agrees served)) agrees e

flipped : (one other : Op) → AreApart one other → AreApart other one
flipped one other (inl before) = inr before
flipped one other (inr behind) = inl behind

pub ends_apart : (base block : ℕ) (m : List ℕ) (one other : Op) (told : Option Reply) (reply : Reply)
    → ((m : List ℕ) (one other : Op) → AreApart one other → answer base block (after base block m one) other ≡ answer base block m other)
    → ((m : List ℕ) (one other : Op) → AreApart one other → after base block (after base block m one) other ≡ after base block (after base block m other) one)
    → AreApart one other → Agrees base block m one told → answer base block m other ≡ reply → EndsReply base block m one other told reply
ends_apart base block m one other told reply kept swap apart agrees e =
    inr (kept m one other apart ∙ e, (λ s told_is. kept m other one (flipped one other apart) ∙ agrees s told_is), swap m one other apart)

silent : (told : Option Reply) (s : Reply) → told ≡ None → told ≡ Some s → ⊥
silent told s none some = cc

pub ends_read : (base block : ℕ) (m : List ℕ) (one other : Op) (told : Option Reply) (reply : Reply)
    → ((a d f l : ℕ) (n : List ℕ) → after base block n (ops.Read a d f l) ≡ n) → ((a : ℕ) × (d : ℕ) × (f : ℕ) × (l : ℕ) × (one ≡ ops.Read a d f l))
    → (told ≡ None) ⊎ ((base block : ℕ) (m : List ℕ) → Agrees base block m one told → answer base block m other ≡ reply → ⊥)
    → Agrees base block m one told → answer base block m other ≡ reply → EndsReply base block m one other told reply
ends_read base block m one other told reply reads (a, d, f, l, is) (inl none) agrees e =
    let keeps : (n : List ℕ) → after base block n one ≡ n = λ n. ap (after base block n) is ∙ reads a d f l n in
    inr (
      ap (λ k. answer base block k other) (keeps m) ∙ e,
      (λ s told_is. absurd (silent told s none told_is)),
      ap (λ k. after base block k other) (keeps m) ∙ sym (keeps (after base block m other)),
    )
ends_read base block m one other told reply reads read (inr clash) agrees e = absurd (clash base block m agrees e)
