-- What AtomicOps find and leave.
use Rattle.std.proofs.Common.{◌≡◌, ◌∙◌, ℕ, zero, suc, ◌-◌, ◌+◌, ◌<◌, true, List, [], Some, None, Option, length, replicate, refl, sym, ap, subst}
use Rattle.std.specs.Prelude.{slice_index}
use Rattle.std.proofs.lemmas.Option.{same_Some}
use Rattle.arrayvec.specs.ArrayVec.{ArrayVec}
use Rattle.tlp_core.specs.Operation.{address_of, count_of}
use Rattle.tlp_core.specs.Ops.{Op}
use Rattle.tlp_core.specs.declared.operation.OpOf.TheVariants as ops
use Rattle.seq_memory.specs.declared.Refusal.{Refusal}
use Rattle.seq_memory.specs.declared.Refusal.TheVariants as refusals
use Rattle.seq_memory.specs.Entries.{Reply}
use Rattle.seq_memory.specs.declared.reply.ReplyOf.TheVariants as replies
use Rattle.seq_memory.specs.Limits.{Extent}
use Rattle.seq_memory.specs.Step.{after, answer, answer_by, bytes_at, data_of, read_back, refusal}
use Rattle.search_effects.specs.Effects.{Agrees, AreSameAt, is_atomic, is_needed}
use Rattle.log_runs.specs.EventView.{EventView}
use Rattle.log_runs.specs.EventView as events
use Rattle.log_runs.specs.Runs.{acted_on, bytes_after, reply_of}
use Rattle.search_rules.specs.Rules.{Answers, Suits}

-- ---- the same bytes

original : (op : Op) (xs : List ℕ) → is_atomic op ≡ true → read_back op xs ≡ data_of xs
original (ops.Read a dw f l) xs e = cc
original (ops.Write a f l bytes) xs e = cc
original (ops.FetchAdd a w x) xs e = refl
original (ops.Swap a w x) xs e = refl
original (ops.Cas a w x y) xs e = refl

abbrev items_of : Reply → List ℕ
items_of (replies.Data d) = d.items
items_of replies.Done = []
items_of replies.Unsupported = []
items_of replies.Aborted = []

same_data : (d : ArrayVec ℕ) → data_of d.items ≡ replies.Data d
same_data d = refl

-- what was answered data was served
bytes_found : (o : Option Refusal) (op : Op) (xs : List ℕ) (d : ArrayVec ℕ) → is_atomic op ≡ true → answer_by o (read_back op xs) ≡ replies.Data d → xs ≡ d.items
bytes_found None op xs d atomic e = ap items_of (sym (original op xs atomic) ∙ e)
bytes_found (Some refusals.Aborted) op xs d atomic e = cc
bytes_found (Some refusals.Unsupported) op xs d atomic e = cc

pub alike : (base block : ℕ) (m : List ℕ) (one other : Op) (a b : ArrayVec ℕ) → is_atomic one ≡ true → is_atomic other ≡ true → address_of one ≡ address_of other → count_of one ≡ count_of other
    → a.items ≡ b.items → refusal base (length m) block other ≡ None → answer base block m one ≡ replies.Data a → answer base block m other ≡ replies.Data b
alike base block m one other a b one_is other_is address count same served answered =
    let found : bytes_at m (address_of one - base) (count_of one) ≡ a.items = bytes_found (refusal base (length m) block one) one (bytes_at m (address_of one - base) (count_of one)) a one_is answered in
    let place : bytes_at m (address_of other - base) (count_of other) ≡ bytes_at m (address_of one - base) (count_of one) =
    ap (λ (k : ℕ). bytes_at m (k - base) (count_of other)) (sym address) ∙ ap (λ (n : ℕ). bytes_at m (address_of one - base) n) (sym count) in
    ap (λ (o : Option Refusal). answer_by o (read_back other (bytes_at m (address_of other - base) (count_of other)))) served
    ∙ original other (bytes_at m (address_of other - base) (count_of other)) other_is ∙ ap data_of (place ∙ found ∙ same) ∙ same_data b

-- ---- by the requests of a log

abbrev pub Alike : Op → Op → Reply → Reply → Type 0
Alike one other seen reply =
    (base block : ℕ) (m : List ℕ) → refusal base (length m) block other ≡ None → answer base block m one ≡ seen → answer base block m other ≡ reply

abbrev pub Breaks : ℕ → Op → Op → Option Reply → Reply → Type 0
Breaks block one other told reply =
    (base : ℕ) (m n : List ℕ) → refusal base (length m) block one ≡ None → Agrees base block m one told → AreSameAt base one (after base block m one) n → answer base block n other ≡ reply → ⊥

pub finds_by : (x : Extent) (one other : Op) (told asked : Option Reply) (seen reply : Reply) → told ≡ Some seen → asked ≡ Some reply → refusal x.base x.size x.block other ≡ None
    → Alike one other seen reply → (m : List ℕ) → length m ≡ x.size → Answers x m one told → Answers x m other asked
unfolding reply_of
finds_by x one other told asked seen reply is_told is_asked served same m long agrees r e =
    same x.base x.block m (ap (λ (z : ℕ). refusal x.base z x.block other) long ∙ served) (agrees seen is_told) ∙ same_Some reply r (sym is_asked ∙ e)

pub leaves_by : (x : Extent) (block : ℕ) (one other : Op) (told asked : Option Reply) (reply : Reply) → block ≡ x.block → asked ≡ Some reply → refusal x.base x.size x.block one ≡ None
    → Breaks block one other told reply → (m : List ℕ) → length m ≡ x.size → Answers x m one told → Answers x (bytes_after x m one) other asked → ⊥
unfolding reply_of bytes_after
leaves_by x block one other told asked reply eb is_asked served breaks m long agrees still =
    let broken : Breaks x.block one other told reply = subst (λ (n : ℕ). Breaks n one other told reply) eb breaks in
    broken x.base m (after x.base x.block m one) (ap (λ (z : ℕ). refusal x.base z x.block one) long ∙ served) agrees (λ k front back. refl) (still reply is_asked)

pub leaves_at : (x : Extent) (m : List ℕ) (o w : Option EventView) (i : ℕ) (op : Op) (told : Option Reply) → o ≡ Some (events.Sub i op told)
    → (Answers x m op told → Suits x (bytes_after x m op) w → ⊥) → Suits x m o → Suits x (acted_on x m o) w → ⊥
unfolding acted_on
leaves_at x m o w i op told at leaves there still =
    leaves (subst (Suits x m) at there) (subst (λ (v : Option EventView). Suits x (acted_on x m v) w) at still)

-- ---- zeros

zero_there : (n k : ℕ) → slice_index (replicate n 0) k ≡ 0
zero_there zero k = refl
zero_there (suc n) zero = refl
zero_there (suc n) (suc k) = zero_there n k

all_needed : (op : Op) (at : ℕ) → is_atomic op ≡ true → is_needed op at ≡ true
all_needed (ops.Read a dw f l) at e = cc
all_needed (ops.Write a f l bytes) at e = cc
all_needed (ops.FetchAdd a w x) at e = refl
all_needed (ops.Swap a w x) at e = refl
all_needed (ops.Cas a w x y) at e = refl

pub zeros_refuse : ((base block at : ℕ) (m : List ℕ) (op : Op) (d : ArrayVec ℕ) → is_needed op at ≡ true → answer base block m op ≡ replies.Data d → at < length d.items
    → slice_index m (address_of op - base + at) ≡ slice_index d.items at)
    → (base block n at : ℕ) (op : Op) (d : ArrayVec ℕ) → is_atomic op ≡ true → at < length d.items → (slice_index d.items at ≡ 0 → ⊥) → answer base block (replicate n 0) op ≡ replies.Data d → ⊥
zeros_refuse law base block n at op d atomic inside other answered =
    other (sym (law base block at (replicate n 0) op d (all_needed op at atomic) answered inside) ∙ zero_there n (address_of op - base + at))

pub zeros_first : (x : Extent) (o : Option EventView) (i : ℕ) (op : Op) (told : Option Reply) → o ≡ Some (events.Sub i op told)
    → ((base block n : ℕ) → Agrees base block (replicate n 0) op told → ⊥) → Suits x (replicate x.size 0) o → ⊥
unfolding reply_of
zeros_first x o i op told at refused here = refused x.base x.block x.size (subst (Suits x (replicate x.size 0)) at here)
