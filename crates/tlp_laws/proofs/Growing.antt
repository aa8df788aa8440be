-- What events leave of a history and its records.
use Rattle.std.proofs.Common.{ℕ, ◌≡◌, ◌+◌, suc, List, [], ◌∷◌, ◌++◌, length, refl, sym, ap, subst, ◌∙◌, arith}
use Rattle.std.proofs.lemmas.List.{append-nil, append_assoc}
use Rattle.seq_memory.specs.Limits.{Extent}
use Rattle.seq_memory.specs.History.{extent_of}
use Rattle.seq_memory.specs.Entries.{Entry}
use Rattle.history_words.specs.Records.{Record}
use Rattle.history_words.specs.declared.record.RecordOf.TheVariants.{Sub, Ans}
use Rattle.history_words.specs.Trace.{submissions}
use Rattle.fabric_steps.specs.Whole.{Whole, entry_of}
use Rattle.fabric_steps.specs.Fabric.{Fabric, whole_of}
use Rattle.fabric_steps.specs.Lists.{Each}
use Rattle.fabric_steps.specs.Steps.{Step, submits, forwards, serves, returns, collects, links}
use Rattle.fabric_steps.specs.Trace.{submission_count}
use Rattle.fabric_steps.specs.Event.{Event}
use Rattle.fabric_steps.specs.declared.event.EventOf.TheVariants as events
use Rattle.fabric_steps.specs.Event.{Seen}
use Rattle.fabric_steps.specs.declared.event.SeenOf.TheVariants as seen
use Rattle.fabric_core.specs.Kept.{IsSoundFabric, IsNoSubmission, records_of}
use Rattle.fabric_core.specs.Steps.{Happens}
use Rattle.fabric_core.specs.Runs.{Runs}

-- ---- the history grows, and the memory stays where it is

pub record Grows (p p' : Whole) : Type 0 where
  pub new : List Entry
  pub more : p'.history ≡ p.history ++ new
  pub same : p'.extent ≡ p.extent

stays_so : (p p' : Whole) → p'.history ≡ p.history → p'.extent ≡ p.extent → Grows p p'
stays_so p p' h e = record { new = []; more = h ∙ sym (append-nil p.history); same = e }

grows_by : (p p' : Whole) (rs : List Record) → Step p p' rs → Grows p p'
grows_by p p' rs (submits i op h e) = stays_so p p' (ap (λ (x : Whole). x.history) h.now) (ap (λ (x : Whole). x.extent) h.now)
grows_by p p' rs (forwards i h e) = stays_so p p' (ap (λ (x : Whole). x.history) h.now) (ap (λ (x : Whole). x.extent) h.now)
grows_by p p' rs (serves h e) = record { new = entry_of h.item ∷ []; more = ap (λ (x : Whole). x.history) h.now; same = ap (λ (x : Whole). x.extent) h.now }
grows_by p p' rs (returns h e) = stays_so p p' (ap (λ (x : Whole). x.history) h.now) (ap (λ (x : Whole). x.extent) h.now)
grows_by p p' rs (collects i number reply h e) = stays_so p p' (ap (λ (x : Whole). x.history) h.now) (ap (λ (x : Whole). x.extent) h.now)
grows_by p p' rs (links h e) = stays_so p p' (ap (λ (x : Whole). x.history) h) (ap (λ (x : Whole). x.extent) h)

-- what each event does
pub record EachEvent : Type 0 where
  pub step : (f f' : Fabric) (event : Event) (what : Seen) → IsSoundFabric f → Happens f event what f' → Step (whole_of f) (whole_of f') (records_of event what (length f.memory.entries))
  pub sound : (f f' : Fabric) (event : Event) (what : Seen) → IsSoundFabric f → Happens f event what f' → IsSoundFabric f'

pub run_grows : EachEvent → (f g : Fabric) (es : List Event) (rs : List Record) → IsSoundFabric f → Runs f es rs g → Grows (whole_of f) (whole_of g)
run_grows l f g [] rs s r = stays_so (whole_of f) (whole_of g) (ap (λ (x : Fabric). x.memory.entries) r.1) (ap (λ (x : Fabric). extent_of x.memory) r.1)
run_grows l f g (e ∷ es) rs s r =
    let one = grows_by (whole_of f) (whole_of r.1) (records_of e r.0 (length f.memory.entries)) (l.step f r.1 e r.0 s r.3) in
    let later = run_grows l r.1 g es r.2 (l.sound f r.1 e r.0 s r.3) r.4 in
    record {
      new = one.new ++ later.new;
      more = later.more ∙ ap (λ (h : List Entry). h ++ later.new) one.more ∙ append_assoc f.memory.entries one.new later.new;
      same = later.same ∙ one.same;
    }

-- ---- events that submit nothing have answers alone for records

abbrev IsAnswer : Record → Type 0
IsAnswer (Sub i k op n) = ⊥
IsAnswer (Ans i k reply n) = Unit {0}

answers_only : (e : Event) (what : Seen) (n : ℕ) → IsNoSubmission e → Each IsAnswer (records_of e what n)
answers_only (events.Submit port op) what n h = absurd h
answers_only (events.Transmit lane) what n h = tt
answers_only (events.Deliver lane fate) what n h = tt
answers_only (events.SendDllp lane kind) what n h = tt
answers_only (events.DeliverDllp lane fate) what n h = tt
answers_only (events.Timer lane) what n h = tt
answers_only (events.Retrained lane) what n h = tt
answers_only (events.Forward lane place) what n h = tt
answers_only (events.Serve place) what n h = tt
answers_only (events.Collect port) (seen.Submitted number) n h = tt
answers_only (events.Collect port) (seen.Sent seq) n h = tt
answers_only (events.Collect port) (seen.Delivered arrival) n h = tt
answers_only (events.Collect port) (seen.SentDllp dllp) n h = tt
answers_only (events.Collect port) (seen.SeenDllp dllp) n h = tt
answers_only (events.Collect port) (seen.Back places) n h = tt
answers_only (events.Collect port) seen.Retrained n h = tt
answers_only (events.Collect port) (seen.To to) n h = tt
answers_only (events.Collect port) (seen.At place) n h = tt
answers_only (events.Collect port) (seen.Collected a) n h = (tt, tt)

each_append : {X : Type 0} (P : X → Type 0) (xs ys : List X) → Each P xs → Each P ys → Each P (xs ++ ys)
each_append P [] ys a b = b
each_append P (x ∷ xs) ys a b = (a.0, each_append P xs ys a.1 b)

later_answers : (f g : Fabric) (es : List Event) (rs : List Record) → Each IsNoSubmission es → Runs f es rs g → Each IsAnswer rs
later_answers f g [] rs h r = subst (Each IsAnswer) (sym r.0) tt
later_answers f g (e ∷ es) rs h r =
    subst (Each IsAnswer) (sym r.5)
    (each_append IsAnswer (records_of e r.0 (length f.memory.entries)) r.2 (answers_only e r.0 (length f.memory.entries) h.0) (later_answers r.1 g es r.2 h.1 r.4))

no_submissions : (rs : List Record) (i : ℕ) → Each IsAnswer rs → submissions rs i ≡ []
no_submissions [] i h = refl
no_submissions (Sub j k op n ∷ rs) i h = absurd h.0
no_submissions (Ans j k reply n ∷ rs) i h = no_submissions rs i h.1

none_counted : (rs : List Record) → Each IsAnswer rs → submission_count rs ≡ 0
none_counted [] h = refl
none_counted (Sub j k op n ∷ rs) h = absurd h.0
none_counted (Ans j k reply n ∷ rs) h = none_counted rs h.1

-- nothing is submitted by a run of such events
pub record SubmitsNothing (rs : List Record) : Type 0 where
  pub none : (i : ℕ) → submissions rs i ≡ []
  pub count : submission_count rs ≡ 0

pub submits_nothing : (f g : Fabric) (es : List Event) (rs : List Record) → Each IsNoSubmission es → Runs f es rs g → SubmitsNothing rs
submits_nothing f g es rs h r =
    let only = later_answers f g es rs h r in
    record { none = λ i. no_submissions rs i only; count = none_counted rs only }

pub counted_more : (rs ss : List Record) → submission_count (rs ++ ss) ≡ submission_count rs + submission_count ss
counted_more [] ss = omega arith
counted_more (Sub j k op n ∷ rs) ss = let more = counted_more rs ss in omega (arith, more)
counted_more (Ans j k reply n ∷ rs) ss = counted_more rs ss
