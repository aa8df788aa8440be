-- Two requests of a log, by what their operations do.
use Rattle.std.proofs.Common.{◌≡◌, ◌∙◌, ◌⊎◌, inl, inr, ℕ, List, Some, None, Option, refl, sym, ap, subst}
use Rattle.std.specs.Prelude.{slice_get}
use Rattle.std.specs.Borrow.{Bor}
use Rattle.std.proofs.lemmas.Option.{same_Some}
use Rattle.tlp_core.specs.Ops.{Op}
use Rattle.seq_memory.specs.Entries.{Reply}
use Rattle.seq_memory.specs.Limits.{Extent}
use Rattle.seq_memory.specs.Step.{after, answer}
use Rattle.search_effects.specs.Effects.{Agrees, AreApart, told_of}
use Rattle.log_runs.specs.declared.log.Event.{Event}
use Rattle.log_runs.specs.declared.log.Event.TheVariants as lent
use Rattle.log_runs.specs.EventView.{EventView, event_of}
use Rattle.log_runs.specs.EventView as events
use Rattle.log_runs.specs.LogView.{LogView}
use Rattle.log_runs.specs.Runs.{reply_of, bytes_after, acted_on}
use Rattle.search_rules.specs.Rules.{Answers, Suits, Ends, NeverBrings, Yields}

pub not_due : (o : Option EventView) (c i : ℕ) (op : Op) (told : Option Reply) → o ≡ Some (events.Due c) → o ≡ Some (events.Sub i op told) → ⊥
not_due o c i op told e f = cc

pub not_free : (o : Option EventView) (i : ℕ) (op : Op) (told : Option Reply) → o ≡ Some events.Free → o ≡ Some (events.Sub i op told) → ⊥
not_free o i op told e f = cc

pub not_none : (o : Option EventView) (i : ℕ) (op : Op) (told : Option Reply) → o ≡ None → o ≡ Some (events.Sub i op told) → ⊥
not_none o i op told e f = cc

-- ---- an event that a log lends

pub sub_at : (es : List EventView) (b : ℕ) (r : Event) (i : ℕ) (op : Op) (told : Option Reply) → r ≡ lent.Sub i op told → Some (event_of r) ≡ slice_get es b
    → slice_get es b ≡ Some (events.Sub i op told)
sub_at es b r i op told is read = sym read ∙ ap (λ e. Some (event_of e)) is

-- the same, with a reply that is lent
pub sub_told : (es : List EventView) (b : ℕ) (r : Event) (i : ℕ) (op : Op) (told : Option Reply) (reply : Option (Bor Reply)) → r ≡ lent.Sub i op told → Some (event_of r) ≡ slice_get es b → told_of reply ≡ told
    → slice_get es b ≡ Some (events.Sub i op (told_of reply))
sub_told es b r i op told reply is read e = sub_at es b r i op told is read ∙ ap (λ t. Some (events.Sub i op t)) (sym e)

pub due_is_idle : (es : List EventView) (b : ℕ) (r : Event) (c : ℕ) → r ≡ lent.Due c → Some (event_of r) ≡ slice_get es b
    → (i : ℕ) (op : Op) (told : Option Reply) → slice_get es b ≡ Some (events.Sub i op told) → ⊥
due_is_idle es b r c is read i op told = not_due (slice_get es b) c i op told (sym read ∙ ap (λ e. Some (event_of e)) is)

pub free_is_idle : (es : List EventView) (b : ℕ) (r : Event) → r ≡ lent.Free → Some (event_of r) ≡ slice_get es b
    → (i : ℕ) (op : Op) (told : Option Reply) → slice_get es b ≡ Some (events.Sub i op told) → ⊥
free_is_idle es b r is read i op told = not_free (slice_get es b) i op told (sym read ∙ ap (λ e. Some (event_of e)) is)

-- ---- by their operations

abbrev pub KeepsOut : ℕ → Op → Op → Option Reply → Option Reply → Type 0
KeepsOut block one op told reply =
    (base : ℕ) (m : List ℕ) → Agrees base block m one told → Agrees base block (after base block m one) op reply → Agrees base block m op reply

abbrev pub GivesWay : ℕ → Op → Op → Option Reply → Option Reply → Type 0
GivesWay block one op told reply =
    (base : ℕ) (m : List ℕ) → Agrees base block m one told → Agrees base block m op reply
    → (Agrees base block (after base block m one) op reply → ⊥)
    ⊎ (Agrees base block (after base block m one) op reply × Agrees base block (after base block m op) one told
    × (after base block (after base block m one) op ≡ after base block (after base block m op) one))

pub brings_by : (x : Extent) (o : Option EventView) (i block : ℕ) (one op : Op) (told reply : Option Reply) → block ≡ x.block → o ≡ Some (events.Sub i op reply)
    → KeepsOut block one op told reply → (m : List ℕ) → Answers x m one told → Suits x (bytes_after x m one) o → Suits x m o
unfolding reply_of bytes_after
brings_by x o i block one op told reply eb at never m agrees there =
    let never_here : KeepsOut x.block one op told reply = subst (λ n. KeepsOut n one op told reply) eb never in
    let before : Suits x m (Some (events.Sub i op reply)) = never_here x.base m agrees (subst (Suits x (after x.base x.block m one)) at there) in
    subst (Suits x m) (sym at) before

pub yields_by : (x : Extent) (o : Option EventView) (i block : ℕ) (one op : Op) (told reply : Option Reply) → block ≡ x.block → o ≡ Some (events.Sub i op reply)
    → GivesWay block one op told reply → (m : List ℕ) → Answers x m one told → Suits x m o → (j : ℕ) → Ends x m (bytes_after x m one) (Some (events.Sub j one told)) o
unfolding reply_of bytes_after acted_on
yields_by x o i block one op told reply eb at yields m agrees there j =
    let way : GivesWay x.block one op told reply = subst (λ n. GivesWay n one op told reply) eb yields in
    let ends : Ends x m (after x.base x.block m one) (Some (events.Sub j one told)) (Some (events.Sub i op reply)) = way x.base m agrees (subst (Suits x m) at there) in
    subst (Ends x m (after x.base x.block m one) (Some (events.Sub j one told))) (sym at) ends

-- ---- by their places

pub brings_at : (log : LogView) (b q i : ℕ) (one : Op) (told : Option Reply) → slice_get log.events b ≡ Some (events.Sub i one told)
    → ((m : List ℕ) → Answers log.extent m one told → Suits log.extent (bytes_after log.extent m one) (slice_get log.events q) → Suits log.extent m (slice_get log.events q))
    → NeverBrings log b q
unfolding acted_on
brings_at log b q i one told at never m agrees there =
    never m (subst (Suits log.extent m) at agrees) (subst (λ o. Suits log.extent (acted_on log.extent m o) (slice_get log.events q)) at there)

-- a request that has no byte of another never brings what that needs
pub brings_apart : ((base block : ℕ) (m : List ℕ) (one other : Op) → AreApart one other → answer base block (after base block m one) other ≡ answer base block m other)
    → (log : LogView) (b q i j : ℕ) (one other : Op) (told asked : Option Reply) → slice_get log.events b ≡ Some (events.Sub i one told) → slice_get log.events q ≡ Some (events.Sub j other asked)
    → AreApart one other → NeverBrings log b q
unfolding reply_of bytes_after
brings_apart law log b q i j one other told asked at_b at_q apart =
    brings_at log b q i one told at_b (λ m agrees there.
    let suited : Answers log.extent m other asked =
    (λ r e. sym (law log.extent.base log.extent.block m one other apart) ∙ subst (Suits log.extent (bytes_after log.extent m one)) at_q there r e) in
    subst (Suits log.extent m) (sym at_q) suited)

pub yields_at : (log : LogView) (b q i : ℕ) (one : Op) (told : Option Reply) → slice_get log.events b ≡ Some (events.Sub i one told)
    → ((m : List ℕ) → Answers log.extent m one told → Suits log.extent m (slice_get log.events q) → (j : ℕ) → Ends log.extent m (bytes_after log.extent m one) (Some (events.Sub j one told)) (slice_get log.events q))
    → Yields log b q
unfolding acted_on
yields_at log b q i one told at yields m agrees there =
    subst (λ o. Ends log.extent m (acted_on log.extent m o) o (slice_get log.events q)) (sym at) (yields m (subst (Suits log.extent m) at agrees) there i)

-- ---- what is no submission

pub idle : (x : Extent) (o : Option EventView) → ((i : ℕ) (op : Op) (told : Option Reply) → o ≡ Some (events.Sub i op told) → ⊥) → (m : List ℕ) → acted_on x m o ≡ m
unfolding acted_on
idle x (Some (events.Sub i op told)) none m = absurd (none i op told refl)
idle x (Some (events.Due b)) none m = refl
idle x (Some events.Free) none m = refl
idle x None none m = refl

pub idle_brings : (log : LogView) (b q : ℕ) → ((i : ℕ) (op : Op) (told : Option Reply) → slice_get log.events b ≡ Some (events.Sub i op told) → ⊥) → NeverBrings log b q
idle_brings log b q none m agrees there = subst (λ k. Suits log.extent k (slice_get log.events q)) (idle log.extent (slice_get log.events b) none m) there

suits_idle : (x : Extent) (o : Option EventView) → ((i : ℕ) (op : Op) (told : Option Reply) → o ≡ Some (events.Sub i op told) → ⊥) → (m : List ℕ) → Suits x m o
suits_idle x (Some (events.Sub i op told)) none m = absurd (none i op told refl)
suits_idle x (Some (events.Due b)) none m = tt
suits_idle x (Some events.Free) none m = tt
suits_idle x None none m = tt

pub idle_yields : (log : LogView) (b q : ℕ) → ((i : ℕ) (op : Op) (told : Option Reply) → slice_get log.events b ≡ Some (events.Sub i op told) → ⊥) → Yields log b q
idle_yields log b q none m agrees there =
    let x = log.extent in
    let one = slice_get log.events b in
    let other = slice_get log.events q in
    inr (
      subst (λ k. Suits x k other) (sym (idle x one none m)) there,
      suits_idle x one none (acted_on x m other),
      ap (λ k. acted_on x k other) (idle x one none m) ∙ sym (idle x one none (acted_on x m other)),
    )

-- one reply is all that was answered
pub way_of : (base block : ℕ) (m : List ℕ) (one op : Op) (told asked : Option Reply) (reply : Reply) → asked ≡ Some reply
    → ((answer base block (after base block m one) op ≡ reply → ⊥)
    ⊎ ((answer base block (after base block m one) op ≡ reply) × Agrees base block (after base block m op) one told
    × (after base block (after base block m one) op ≡ after base block (after base block m op) one)))
    → (Agrees base block (after base block m one) op asked → ⊥)
    ⊎ (Agrees base block (after base block m one) op asked × Agrees base block (after base block m op) one told
    × (after base block (after base block m one) op ≡ after base block (after base block m op) one))
way_of base block m one op told asked reply is (inl broken) = inl (λ there. broken (there reply is))
way_of base block m one op told asked reply is (inr (still, agrees, swap)) =
    inr ((λ r told_it. still ∙ same_Some reply r (sym is ∙ told_it)), agrees, swap)
