-- An answer that no memory gives.
use Rattle.std.proofs.Common.{◌≡◌, ◌∙◌, ℕ, zero, suc, ◌-◌, ◌≤◌, true, false, Bool, List, [], ◌∷◌, Some, None, Option, length, replicate, refl, sym, ap, subst, inl, inr, arith}
use Rattle.std.specs.Prelude.{slice_get, not}
use Rattle.std.proofs.lemmas.Bool.{cases_eq}
use Rattle.std.proofs.lemmas.List.{length-replicate}
use Rattle.std.proofs.lemmas.Option.{slice_get_within}
use Rattle.tlp_core.specs.Operation.{address_of, count_of}
use Rattle.tlp_core.specs.Ops.{Op}
use Rattle.tlp_core.specs.declared.operation.OpOf.TheVariants as ops
use Rattle.seq_memory.specs.declared.Refusal.{Refusal}
use Rattle.seq_memory.specs.declared.Refusal.TheVariants as refusals
use Rattle.seq_memory.specs.Entries.{Reply}
use Rattle.seq_memory.specs.declared.reply.ReplyOf.TheVariants as replies
use Rattle.seq_memory.specs.Limits.{Extent}
use Rattle.seq_memory.specs.Step.{after, answer, answer_by, bytes_at, read_back, refusal}
use Rattle.search_effects.specs.Effects.{Agrees, AreSameBut}
use Rattle.log_runs.specs.EventView.{EventView}
use Rattle.log_runs.specs.EventView as events
use Rattle.log_runs.specs.declared.Step.{Step}
use Rattle.log_runs.specs.declared.Step.TheVariants as steps
use Rattle.log_runs.specs.LogView.{LogView}
use Rattle.log_runs.specs.Runs.{State, MayPass, MayAct, Leads, Dead, next, start, acted_on, reply_of, bytes_after}
use Rattle.search_rules.specs.Junk.{Overlooks}
use Rattle.search_rules.specs.Rules.{Answers, Suits, NeverSuits}
use Rattle.search_rules.proofs.RuleLemmas.{Sizes, set_there, suits, length_after}

none_acted : (n q : ℕ) → slice_get (replicate n false) q ≡ Some true → ⊥
none_acted zero q e = cc
none_acted (suc n) zero e = cc
none_acted (suc n) (suc q) e = none_acted n q e

module _ (sizes : Sizes) (log : LogView) (q a : ℕ) (due : slice_get log.events a ≡ Some (events.Due q)) (never : NeverSuits log q) where
  -- q hasn't acted
  record Early (s : State) : Type 0 where
    pub since : s.event ≤ a
    pub fresh : slice_get s.acted q ≡ Some true → ⊥
    pub size : length s.bytes ≡ log.extent.size

  no_run : (xs : List Step) (s u : State) → Leads log s xs u → u.event ≡ length log.events → Early s → ⊥
  no_run [] s u leads over h =
      let within = slice_get_within log.events a (events.Due q) due in
      absurd (omega (arith, within, h.since, ap (λ (w : State). w.event) leads, over))
  no_run (steps.Pass ∷ xs) s u leads over h = elim (cases_eq s.event a) [
    | inl now ↦ h.fresh (subst (MayPass s) (ap (slice_get log.events) now ∙ due) leads.0)
    | inr later ↦ no_run xs (next log s steps.Pass) u leads.1 over (record { since = omega (arith, h.since, later); fresh = h.fresh; size = h.size })
  ]
  no_run (steps.Act b ∷ xs) s u leads over h = elim (cases_eq b q) [
    | inl same ↦
        let m : MayAct log s b = leads.0 in
        never s.bytes h.size (subst (λ c. Suits log.extent s.bytes (slice_get log.events c)) same (suits log s b m))
    | inr other ↦ no_run xs (next log s (steps.Act b)) u leads.1 over (record {
      since = h.since;
      fresh = λ e. h.fresh (sym (set_there s.acted b q true other) ∙ e);
      size = length_after sizes log.extent s.bytes (slice_get log.events b) ∙ h.size;
    })
  ]

pub never_is_dead : Sizes → (log : LogView) (q a : ℕ) → slice_get log.events a ≡ Some (events.Due q) → NeverSuits log q → Dead log (start log)
never_is_dead sizes log q a due never live =
    no_run sizes log q a due never live.steps (start log) live.last live.leads live.over
    (record { since = omega arith; fresh = none_acted (length log.events) q; size = length-replicate {A = ℕ} log.extent.size 0 })

-- ---- by the operation and its reply

pub answered_at : (x : Extent) (o : Option EventView) (i : ℕ) (op : Op) (told : Option Reply) → o ≡ Some (events.Sub i op told)
    → ((m : List ℕ) → length m ≡ x.size → Answers x m op told → ⊥) → (m : List ℕ) → length m ≡ x.size → Suits x m o → ⊥
answered_at x o i op told at never m size there = never m size (subst (Suits x m) at there)

pub quiet_at : (x : Extent) (o : Option EventView) (i : ℕ) (op : Op) (told : Option Reply) → o ≡ Some (events.Sub i op told)
    → ((m : List ℕ) → length m ≡ x.size → Answers x m op told → bytes_after x m op ≡ m) → (m : List ℕ) → length m ≡ x.size → Suits x m o → acted_on x m o ≡ m
unfolding acted_on
quiet_at x o i op told at quiet m size there = ap (acted_on x m) at ∙ quiet m size (subst (Suits x m) at there)

abbrev pub Refused : Type 0
Refused = (base block : ℕ) (m : List ℕ) (op : Op) (r : Refusal) → refusal base (length m) block op ≡ Some r → after base block m op ≡ m

refused_there : (x : Extent) (m : List ℕ) (op : Op) (r : Refusal) → refusal x.base x.size x.block op ≡ Some r → length m ≡ x.size → refusal x.base (length m) x.block op ≡ Some r
refused_there x m op r e size = ap (λ z. refusal x.base z x.block op) size ∙ e

pub refused_stays : Refused → (x : Extent) (op : Op) (r : Refusal) → refusal x.base x.size x.block op ≡ Some r → (m : List ℕ) → length m ≡ x.size → bytes_after x m op ≡ m
unfolding bytes_after
refused_stays refused x op r e m size = refused x.base x.block m op r (refused_there x m op r e size)

pub quiet_by : (x : Extent) (block : ℕ) (op : Op) (told : Option Reply) → block ≡ x.block → ((base : ℕ) (m : List ℕ) → Agrees base block m op told → after base block m op ≡ m)
    → (m : List ℕ) → Answers x m op told → bytes_after x m op ≡ m
unfolding bytes_after reply_of
quiet_by x block op told eb quiet m agrees = subst (λ n. (base : ℕ) (m : List ℕ) → Agrees base n m op told → after base n m op ≡ m) eb quiet x.base m agrees

-- ---- what it doesn't see

by_refusal : (r : Refusal) (a b : Reply) → answer_by (Some r) a ≡ answer_by (Some r) b
by_refusal refusals.Aborted a b = refl
by_refusal refusals.Unsupported a b = refl

refused_alike : (o p : Option Refusal) (r : Refusal) (a b : Reply) → o ≡ Some r → p ≡ Some r → answer_by o a ≡ answer_by p b
refused_alike o p r a b e f = ap (λ z. answer_by z a) e ∙ by_refusal r a b ∙ sym (ap (λ z. answer_by z b) f)

pub unserved_overlooks : Refused → (x : Extent) (one : Op) (told : Option Reply) (other : Op) (r : Refusal) → refusal x.base x.size x.block one ≡ Some r → Overlooks x one told other
unserved_overlooks refused x one told other r e m n size same agrees =
    let at_m : refusal x.base (length m) x.block one ≡ Some r = refused_there x m one r e size in
    let at_n : refusal x.base (length n) x.block one ≡ Some r = refused_there x n one r e (same.size ∙ size) in (
      λ reply is. refused_alike (refusal x.base (length n) x.block one) (refusal x.base (length m) x.block one) r _ _ at_n at_m ∙ agrees reply is,
      inr (refused x.base x.block m one r at_m, refused x.base x.block n one r at_n),
    )

pub unseen_overlooks : (x : Extent) (one : Op) (told : Option Reply) (other : Op)
    → ((base block : ℕ) (m : List ℕ) → after base block m one ≡ m)
    → ((base block : ℕ) (m n : List ℕ) → AreSameBut base other m n → answer base block n one ≡ answer base block m one) → Overlooks x one told other
unseen_overlooks x one told other reads answered m n size same agrees =
    (λ reply is. answered x.base x.block m n same ∙ agrees reply is, inr (reads x.base x.block m, reads x.base x.block n))

-- ---- what is never answered

pub never_refused : (op : Op) (xs : List ℕ) → read_back op xs ≡ replies.Unsupported → ⊥
never_refused (ops.Read a dw f l) xs e = cc
never_refused (ops.Write a f l bytes) xs e = cc
never_refused (ops.FetchAdd a w x) xs e = cc
never_refused (ops.Swap a w x) xs e = cc
never_refused (ops.Cas a w x y) xs e = cc

pub never_aborted : (op : Op) (xs : List ℕ) → read_back op xs ≡ replies.Aborted → ⊥
never_aborted (ops.Read a dw f l) xs e = cc
never_aborted (ops.Write a f l bytes) xs e = cc
never_aborted (ops.FetchAdd a w x) xs e = cc
never_aborted (ops.Swap a w x) xs e = cc
never_aborted (ops.Cas a w x y) xs e = cc

pub not_true : (b : Bool) → not b ≡ true → b ≡ false
not_true true e = cc
not_true false e = refl

module _ (x : Extent) (base size block : ℕ) (op : Op) (reply : Reply) (o : Option Refusal) (eb : base ≡ x.base) (es : size ≡ x.size) (ek : block ≡ x.block)
    (is : o ≡ refusal base size block op) where
  is_there : refusal x.base x.size x.block op ≡ o
  is_there = sym (is ∙ ap (λ z. refusal z size block op) eb ∙ ap (λ z. refusal x.base z block op) es ∙ ap (λ z. refusal x.base x.size z op) ek)

  pub refused_unanswered : (r : Refusal) → o ≡ Some r → ((made : Reply) → answer_by (Some r) made ≡ reply → ⊥) → (m : List ℕ) → length m ≡ x.size → reply_of x m op ≡ reply → ⊥
  unfolding reply_of
  refused_unanswered r e other m long answered =
      let there : refusal x.base (length m) x.block op ≡ Some r = refused_there x m op r (is_there ∙ e) long in
      let made = read_back op (bytes_at m (address_of op - x.base) (count_of op)) in
      other made (sym (ap (λ z. answer_by z made) there) ∙ answered)

  pub served_unanswered : o ≡ None → ((b k : ℕ) (m : List ℕ) → refusal b (length m) k op ≡ None → answer b k m op ≡ reply → ⊥) → (m : List ℕ) → length m ≡ x.size → reply_of x m op ≡ reply → ⊥
  unfolding reply_of
  served_unanswered e never m long answered = never x.base x.block m (ap (λ z. refusal x.base z x.block op) long ∙ is_there ∙ e) answered

pub unserved : (served : Bool) → not served ≡ true → served ≡ false
unserved false e = refl
unserved true e = absurd cc
