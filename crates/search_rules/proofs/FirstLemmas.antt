-- The first that can act of those that have bytes in common acts at once.
use Rattle.std.proofs.Common.{◌≡◌, ◌∙◌, ◌⊎◌, inl, inr, ℕ, ◌+◌, ◌≤◌, ◌<◌, true, false, List, [], ◌∷◌, Some, None, Option, length, refl, sym, ap, subst, arith}
use Rattle.std.specs.Prelude.{slice_get, slice_set, slice_index}
use Rattle.std.proofs.lemmas.Bool.{cases_eq}
use Rattle.std.proofs.lemmas.Option.{same_Some}
use Rattle.tlp_core.specs.Ops.{Op}
use Rattle.tlp_core.specs.Operation.{address_of, count_of}
use Rattle.seq_memory.specs.Entries.{Reply}
use Rattle.seq_memory.specs.Limits.{Extent}
use Rattle.seq_memory.specs.Step.{after, answer}
use Rattle.search_effects.specs.Effects.{Agrees, AreApart, AreSameAt}
use Rattle.log_runs.specs.EventView.{EventView}
use Rattle.log_runs.specs.EventView as events
use Rattle.log_runs.specs.declared.Step.{Step}
use Rattle.log_runs.specs.declared.Step.TheVariants as steps
use Rattle.log_runs.specs.LogView.{LogView}
use Rattle.log_runs.specs.Runs.{State, MayPass, MayAct, Leads, Live, IsForced, next, acted_on, reply_of, bytes_after}
use Rattle.search_rules.specs.Rules.{Answers, Suits, AreSameFor, LetsFirst, Follows, AllOthers, IsFirst}
use Rattle.search_rules.proofs.PairLemmas.{not_due, not_free, not_none}
use Rattle.search_rules.proofs.RuleLemmas.{clash, set_there, set_swap, gone_by, same_state, suits, run, before, may_later, pass_later}

pub idle_first : (log : LogView) (m : List ℕ) (b q : ℕ) → ((i : ℕ) (op : Op) (told : Option Reply) → slice_get log.events b ≡ Some (events.Sub i op told) → ⊥) → LetsFirst log m b q
idle_first log m b q none = inl (λ i j one other told asked at there. absurd (none i one told at))

pub first_by : (x : Extent) (o : Option EventView) (i base : ℕ) (one op : Op) (told reply : Option Reply) (m : List ℕ) → base ≡ x.base → o ≡ Some (events.Sub i op reply)
    → AreApart one op ⊎ ((block : ℕ) (n : List ℕ) → AreSameAt base op m n → Agrees base block n one told → ⊥)
    → (j : ℕ) (other : Op) (asked : Option Reply) → o ≡ Some (events.Sub j other asked) → AreApart one other ⊎ ((n : List ℕ) → AreSameAt x.base other m n → Answers x n one told → ⊥)
unfolding reply_of
first_by x o i base one op told reply m eb at behind j other asked there =
    let e : Some (events.Sub i op reply) ≡ Some (events.Sub j other asked) = sym at ∙ there in
    let same : op ≡ other = cc in
    let here : AreApart one op ⊎ ((block : ℕ) (n : List ℕ) → AreSameAt x.base op m n → Agrees x.base block n one told → ⊥) =
    subst (λ z. AreApart one op ⊎ ((block : ℕ) (n : List ℕ) → AreSameAt z op m n → Agrees z block n one told → ⊥)) eb behind in
    subst (λ w. AreApart one w ⊎ ((n : List ℕ) → AreSameAt x.base w m n → Answers x n one told → ⊥)) same (elim here [
      | inl apart ↦ inl apart
      | inr waits ↦ inr (waits x.block)
    ])

-- what is known of the second's event decides which it is
first_on : (log : LogView) (m : List ℕ) (b q i : ℕ) (one : Op) (told : Option Reply) (o : Option EventView) → slice_get log.events b ≡ Some (events.Sub i one told) → slice_get log.events q ≡ o
    → ((j : ℕ) (other : Op) (asked : Option Reply) → slice_get log.events q ≡ Some (events.Sub j other asked) → AreApart one other ⊎ ((n : List ℕ) → AreSameAt log.extent.base other m n → Answers log.extent n one told → ⊥))
    → LetsFirst log m b q
first_on log m b q i one told (Some (events.Sub j other asked)) seen e behind = elim (behind j other asked e) [
  | inl apart ↦ inl (λ i2 j2 one2 other2 told2 asked2 at there.
      let f : Some (events.Sub i one told) ≡ Some (events.Sub i2 one2 told2) = sym seen ∙ at in
      let g : Some (events.Sub j other asked) ≡ Some (events.Sub j2 other2 asked2) = sym e ∙ there in
      let first : one ≡ one2 = cc in
      let second : other ≡ other2 = cc in
      subst (λ w. AreApart w other2) first (subst (λ w. AreApart one w) second apart))
  | inr waits ↦ inr (inl (λ n same suited. waits n (same j other asked e) (subst (Suits log.extent n) seen suited)))
]
first_on log m b q i one told (Some (events.Due c)) seen e behind = inl (λ i2 j2 one2 other2 told2 asked2 at there. absurd (not_due (slice_get log.events q) c j2 other2 asked2 e there))
first_on log m b q i one told (Some events.Free) seen e behind = inl (λ i2 j2 one2 other2 told2 asked2 at there. absurd (not_free (slice_get log.events q) j2 other2 asked2 e there))
first_on log m b q i one told None seen e behind = inl (λ i2 j2 one2 other2 told2 asked2 at there. absurd (not_none (slice_get log.events q) j2 other2 asked2 e there))

pub first_at : (log : LogView) (m : List ℕ) (b q i : ℕ) (one : Op) (told : Option Reply) → slice_get log.events b ≡ Some (events.Sub i one told)
    → ((j : ℕ) (other : Op) (asked : Option Reply) → slice_get log.events q ≡ Some (events.Sub j other asked) → AreApart one other ⊎ ((n : List ℕ) → AreSameAt log.extent.base other m n → Answers log.extent n one told → ⊥))
    → LetsFirst log m b q
first_at log m b q i one told seen behind = first_on log m b q i one told (slice_get log.events q) seen refl behind

abbrev pub Kept : Type 0
Kept = (base block : ℕ) (m : List ℕ) (one other : Op) → AreApart one other → answer base block (after base block m one) other ≡ answer base block m other

abbrev pub Swaps : Type 0
Swaps = (base block : ℕ) (m : List ℕ) (one other : Op) → AreApart one other → after base block (after base block m one) other ≡ after base block (after base block m other) one

abbrev pub Others : Type 0
Others = (base block k : ℕ) (m : List ℕ) (op : Op) → (base + k < address_of op) ⊎ (address_of op + count_of op ≤ base + k) → slice_index (after base block m op) k ≡ slice_index m k

flipped : (one other : Op) → AreApart one other → AreApart other one
flipped one other (inl low) = inr low
flipped one other (inr high) = inl high

-- ---- two submissions that are apart

module _ (kept : Kept) (swaps : Swaps) (others : Others) where
  suits_after : (x : Extent) (m : List ℕ) (o p : Option EventView) (i j : ℕ) (one other : Op) (told asked : Option Reply) → o ≡ Some (events.Sub i one told) → p ≡ Some (events.Sub j other asked) → AreApart one other
      → Suits x m p → Suits x (acted_on x m o) p
  unfolding acted_on bytes_after reply_of
  suits_after x m o p i j one other told asked at there apart suited =
      let before : (r : Reply) → asked ≡ Some r → reply_of x m other ≡ r = subst (Suits x m) there suited in
      let later : (r : Reply) → asked ≡ Some r → reply_of x (after x.base x.block m one) other ≡ r = λ r e. kept x.base x.block m one other apart ∙ before r e in
      subst (λ k. Suits x k p) (sym (ap (acted_on x m) at)) (subst (Suits x (after x.base x.block m one)) (sym there) later)

  swapped : (x : Extent) (m : List ℕ) (o p : Option EventView) (i j : ℕ) (one other : Op) (told asked : Option Reply) → o ≡ Some (events.Sub i one told) → p ≡ Some (events.Sub j other asked) → AreApart one other
      → acted_on x (acted_on x m o) p ≡ acted_on x (acted_on x m p) o
  unfolding acted_on bytes_after
  swapped x m o p i j one other told asked at there apart =
      let of_o : (k : List ℕ) → acted_on x k o ≡ after x.base x.block k one = λ k. ap (acted_on x k) at in
      let of_p : (k : List ℕ) → acted_on x k p ≡ after x.base x.block k other = λ k. ap (acted_on x k) there in
      of_p (acted_on x m o) ∙ ap (λ k. after x.base x.block k other) (of_o m) ∙ swaps x.base x.block m one other apart
      ∙ sym (of_o (acted_on x m p) ∙ ap (λ k. after x.base x.block k one) (of_p m))

  same_after : (x : Extent) (m n : List ℕ) (o : Option EventView) (i : ℕ) (one other : Op) (told : Option Reply) → o ≡ Some (events.Sub i one told) → AreApart one other
      → AreSameAt x.base other m n → AreSameAt x.base other m (acted_on x n o)
  unfolding acted_on bytes_after
  same_after x m n o i one other told at (inl low) same k front back =
      ap (λ ys. slice_index ys k) (ap (acted_on x n) at) ∙ others x.base x.block k n one (inr (omega (arith, low, front))) ∙ same k front back
  same_after x m n o i one other told at (inr high) same k front back =
      ap (λ ys. slice_index ys k) (ap (acted_on x n) at) ∙ others x.base x.block k n one (inl (omega (arith, high, back))) ∙ same k front back

  module _ (log : LogView) (q r a : ℕ) (m0 : List ℕ) (due : slice_get log.events a ≡ Some (events.Due r)) (follows : Follows log q r)
      (j : ℕ) (other : Op) (asked : Option Reply) (there : slice_get log.events q ≡ Some (events.Sub j other asked)) where
    -- t is s after q, and the bytes of q are in s as they were
    record Ahead (s t : State) : Type 0 where
      pub event : t.event ≡ s.event
      pub since : s.event ≤ a
      pub left : slice_get s.acted q ≡ Some false
      pub owed : slice_get s.acted r ≡ Some false
      pub acted : t.acted ≡ slice_set s.acted q true
      pub suited : Suits log.extent s.bytes (slice_get log.events q)
      pub same : AreSameAt log.extent.base other m0 s.bytes
      pub bytes : t.bytes ≡ acted_on log.extent s.bytes (slice_get log.events q)
      pub rest : AllOthers s q a (λ b. LetsFirst log m0 b q)

    -- while q is left, none that follows it acts
    not_behind : (s : State) (b : ℕ) → Follows log q b → slice_get s.acted q ≡ Some false → (q ≡ b → ⊥) → MayAct log s b → ⊥
    not_behind s b (inl same) left distinct m = distinct same
    not_behind s b (inr (i, w, op, was, told, early, posted, at, of)) left distinct m =
        let submitted : Some (events.Sub m.requester m.op m.told) ≡ Some (events.Sub i op told) = sym m.submitted ∙ of in
        let who : m.requester ≡ i = cc in
        let acted : slice_get s.acted q ≡ Some true = m.ordered q w was early (subst (λ n. slice_get log.events q ≡ Some (events.Sub n w was)) (sym who) at) posted in
        clash refl (same_Some true false (sym acted ∙ left))

    -- while q is left, r doesn't act
    not_before : (s : State) (b : ℕ) → Follows log q r → slice_get s.acted q ≡ Some false → (q ≡ b → ⊥) → MayAct log s b → b ≡ r → ⊥
    not_before s b h left distinct m e = not_behind s b (subst (Follows log q) (sym e) h) left distinct m

    same_for : (n : List ℕ) → AreSameAt log.extent.base other m0 n → AreSameFor log q m0 n
    same_for n same i op told at =
        let e : Some (events.Sub j other asked) ≡ Some (events.Sub i op told) = sym there ∙ at in
        let one : other ≡ op = cc in
        subst (λ o. AreSameAt log.extent.base o m0 n) one same

    ahead_live : (xs : List Step) (s t u : State) → Leads log s xs u → u.event ≡ length log.events → Ahead s t → Live log t
    ahead_live [] s t u leads over h = run log t t [] refl (h.event ∙ ap (λ (w : State). w.event) leads ∙ over)
    ahead_live (steps.Pass ∷ xs) s t u leads over h = elim (cases_eq s.event a) [
      | inl now ↦
          let done : slice_get s.acted r ≡ Some true = subst (MayPass s) (ap (slice_get log.events) now ∙ due) leads.0 in
          absurd (clash refl (same_Some true false (sym done ∙ h.owed)))
      | inr later ↦
          before log t steps.Pass (subst (λ e. MayPass t (slice_get log.events e)) (sym h.event) (pass_later log q s t h.acted (slice_get log.events s.event) leads.0))
          (ahead_live xs (next log s steps.Pass) (next log t steps.Pass) u leads.1 over (record {
            event = ap (λ e. e + 1) h.event;
            since = omega (arith, h.since, later);
            left = h.left;
            owed = h.owed;
            acted = h.acted;
            suited = h.suited;
            same = h.same;
            bytes = h.bytes;
            rest = h.rest;
          }))
    ]
    ahead_live (steps.Act b ∷ xs) s t u leads over h = elim (cases_eq q b) [
      | inl same ↦
          let e : next log s (steps.Act q) ≡ t = same_state (next log s (steps.Act q)) t (sym h.event) (sym h.acted) (sym h.bytes) in
          subst (Live log) (ap (λ c. next log s (steps.Act c)) (sym same) ∙ e) (run log (next log s (steps.Act b)) u xs leads.1 over)
      | inr distinct ↦
          let m : MayAct log s b = leads.0 in
          let s2 = next log s (steps.Act b) in
          elim (h.rest b (omega (arith, m.since, h.since)) distinct m.once) [
            | inr (inl waits) ↦ absurd (waits s.bytes (same_for s.bytes h.same) (suits log s b m))
            | inr (inr behind) ↦ absurd (not_behind s b behind h.left distinct m)
            | inl free ↦
                let apart : AreApart m.op other = free m.requester j m.op other m.told asked m.submitted there in
                let o = slice_get log.events b in
                let p = slice_get log.events q in
                before log t (steps.Act b)
                (may_later log q s t b h.event h.acted distinct m
                (subst (λ k. Suits log.extent k o) (sym h.bytes)
                (suits_after log.extent s.bytes p o j m.requester other m.op asked m.told there m.submitted (flipped m.op other apart) (suits log s b m))))
                (ahead_live xs s2 (next log t (steps.Act b)) u leads.1 over (record {
                  event = h.event;
                  since = h.since;
                  left = set_there s.acted b q true (λ e. distinct (sym e)) ∙ h.left;
                  owed = set_there s.acted b r true (not_before s b follows h.left distinct m) ∙ h.owed;
                  acted = ap (λ ys. slice_set ys b true) h.acted ∙ set_swap s.acted q b true true distinct;
                  suited = suits_after log.extent s.bytes o p m.requester j m.op other m.told asked m.submitted there apart h.suited;
                  same = same_after log.extent m0 s.bytes o m.requester m.op other m.told m.submitted apart h.same;
                  bytes = ap (λ k. acted_on log.extent k o) h.bytes
                      ∙ sym (swapped log.extent s.bytes o p m.requester j m.op other m.told asked m.submitted there apart);
                  rest = λ c l d e. h.rest c l d (gone_by s.acted b c m.once e).1;
                }))
          ]
    ]

  pub first_is_forced : (log : LogView) (s : State) (q r a : ℕ) → IsFirst log s q r a → IsForced log s (steps.Act q)
  first_is_forced log s q r a h =
      let m : MayAct log s q = h.may in
      record {
        allowed = m;
        live = λ l. ahead_live log q r a s.bytes h.due h.follows m.requester m.op m.told m.submitted l.steps s (next log s (steps.Act q)) l.last l.leads l.over (record {
          event = refl;
          since = h.since;
          left = m.once;
          owed = h.left;
          acted = refl;
          suited = suits log s q m;
          same = λ k front back. refl;
          bytes = refl;
          rest = h.others;
        });
      }
