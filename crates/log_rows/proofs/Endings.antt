-- A test that computes of whether no run leads to the end of a log.
use Rattle.std.proofs.Common.{◌≡◌, ◌∙◌, ℕ, zero, suc, ◌<◌, Bool, true, false, List, [], ◌∷◌, length, Option, Some, None, refl, sym, ap, arith, inl, inr}
use Rattle.std.specs.Prelude.{slice_get, nat_lt, ◌&&◌, ◌||◌, ◌==◌, not}
use Rattle.std.proofs.lemmas.Bool.{and_parts, eq-eqb, lt-ltb, cases_eq}
use Rattle.std.proofs.lemmas.Slice.Eq.{bytes_eq-Decides}
use Rattle.std.proofs.lemmas.Option.{slice_get_within}
use Rattle.seq_memory.specs.Entries.{Reply}
use Rattle.seq_memory.specs.declared.reply.ReplyOf.TheVariants as replies
use Rattle.history_words.specs.Flaws.{same_reply}
use Rattle.log_runs.specs.EventView.{EventView}
use Rattle.log_runs.specs.EventView as events
use Rattle.log_runs.specs.declared.Step.{Step}
use Rattle.log_runs.specs.declared.Step.TheVariants as steps
use Rattle.log_runs.specs.LogView.{LogView}
use Rattle.log_runs.specs.Runs.{State, MayPass, MayAct, Leads, Live, next, start, reply_of}

abbrev is_set : Option Bool → Bool
is_set (Some x) = x
is_set None = false

abbrev may_pass : State → Option EventView → Bool
may_pass s (Some (events.Sub i op told)) = true
may_pass s (Some (events.Due b)) = is_set (slice_get s.acted b)
may_pass s (Some events.Free) = true
may_pass s None = false

abbrev is_told : Option Reply → Reply → Bool
is_told None made = true
is_told (Some reply) made = same_reply reply made

-- the order of posted writes is left out
abbrev may_act : LogView → State → ℕ → Option EventView → Bool
may_act log s b (Some (events.Sub i op told)) = nat_lt b s.event && (not (is_set (slice_get s.acted b)) && is_told told (reply_of log.extent s.bytes op))
may_act log s b (Some (events.Due c)) = false
may_act log s b (Some events.Free) = false
may_act log s b None = false

unfoldable pub all_below : (ℕ → Bool) → ℕ → Bool
all_below test zero = true
all_below test (suc n) = all_below test n && test n

-- no run of fewer than so many steps ends, and none is longer
unfoldable pub is_dead : ℕ → LogView → State → Bool
is_dead zero log s = false
is_dead (suc n) log s =
    not (s.event == length log.events)
    && ((not (may_pass s (slice_get log.events s.event)) || is_dead n log (next log s steps.Pass))
    && all_below (λ b. not (may_act log s b (slice_get log.events b)) || is_dead n log (next log s (steps.Act b))) (length log.events))

below : (test : ℕ → Bool) (n b : ℕ) → all_below test n ≡ true → b < n → test b ≡ true
unfolding all_below
below test zero b t l = absurd (omega arith)
below test (suc n) b t l =
    let (rest, one) = and_parts (all_below test n) (test n) t in
    elim (cases_eq b n) [
      | inl same ↦ ap test same ∙ one
      | inr other ↦ below test n b rest (omega (arith, l, other))
    ]

then : (a b : Bool) → (not a || b) ≡ true → a ≡ true → b ≡ true
then true b h e = h
then false b h e = cc

passes : (s : State) (o : Option EventView) → MayPass s o → may_pass s o ≡ true
passes s (Some (events.Sub i op told)) a = refl
passes s (Some (events.Due b)) a = ap is_set a
passes s (Some events.Free) a = refl
passes s None a = absurd a

same_self : (r : Reply) → same_reply r r ≡ true
same_self replies.Done = refl
same_self (replies.Data xs) = (bytes_eq-Decides xs.items xs.items).1 refl
same_self replies.Unsupported = refl
same_self replies.Aborted = refl

told_made : (told : Option Reply) (made : Reply) → ((r : Reply) → told ≡ Some r → made ≡ r) → is_told told made ≡ true
told_made None made h = refl
told_made (Some reply) made h = ap (same_reply reply) (h reply refl) ∙ same_self reply

acts : (log : LogView) (s : State) (b : ℕ) → MayAct log s b → may_act log s b (slice_get log.events b) ≡ true
acts log s b m =
    let fresh : not (is_set (slice_get s.acted b)) ≡ true = ap (λ o. not (is_set o)) m.once in
    let told = told_made m.told (reply_of log.extent s.bytes m.op) m.replied in
    let all : may_act log s b (Some (events.Sub m.requester m.op m.told)) ≡ true = rw (lt-ltb b s.event m.since, fresh, told) refl in
    ap (may_act log s b) m.submitted ∙ all

no_end : (a b : ℕ) → not (a == b) ≡ true → a ≡ b → ⊥
no_end a b h e = let t : not (a == b) ≡ false = ap not (eq-eqb a b e) in let f : true ≡ false = sym h ∙ t in cc

none : (n : ℕ) (log : LogView) (s t : State) (xs : List Step) → is_dead n log s ≡ true → Leads log s xs t → t.event ≡ length log.events → ⊥
unfolding is_dead
none zero log s t xs h leads over = cc
none (suc n) log s t [] h leads over = no_end s.event (length log.events) (and_parts (not (s.event == length log.events)) _ h).0 (ap (λ (u : State). u.event) leads ∙ over)
none (suc n) log s t (steps.Pass ∷ xs) h leads over =
    let rest = (and_parts (not (s.event == length log.events)) _ h).1 in
    let pass = (and_parts (not (may_pass s (slice_get log.events s.event)) || is_dead n log (next log s steps.Pass)) _ rest).0 in
    none n log (next log s steps.Pass) t xs (then (may_pass s (slice_get log.events s.event)) _ pass (passes s (slice_get log.events s.event) leads.0)) leads.1 over
none (suc n) log s t (steps.Act b ∷ xs) h leads over =
    let rest = (and_parts (not (s.event == length log.events)) _ h).1 in
    let act = (and_parts (not (may_pass s (slice_get log.events s.event)) || is_dead n log (next log s steps.Pass)) _ rest).1 in
    let inside = slice_get_within log.events b (events.Sub leads.0.requester leads.0.op leads.0.told) leads.0.submitted in
    let one = below (λ c. not (may_act log s c (slice_get log.events c)) || is_dead n log (next log s (steps.Act c))) (length log.events) b act inside in
    none n log (next log s (steps.Act b)) t xs (then (may_act log s b (slice_get log.events b)) _ one (acts log s b leads.0)) leads.1 over

pub no_run : (n : ℕ) (log : LogView) → is_dead n log (start log) ≡ true → Live log (start log) → ⊥
no_run n log h live = none n log (start log) live.last live.steps h live.leads live.over
