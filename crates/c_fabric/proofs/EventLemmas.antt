-- What a session holds after an event.
use Rattle.std.proofs.Common.{ℕ, ◌≡◌, ◌⊎◌, inl, inr, Bool, true, false, List, ◌++◌, length, sym, ap, refl, subst, Result, Ok, Err, IsOk, IfErr, OnOk, OnErr}
use Rattle.history_words.specs.Records.{Record}
use Rattle.fabric_steps.specs.Fabric.{Fabric, whole_of}
use Rattle.fabric_steps.specs.Sound.{Sound}
use Rattle.fabric_steps.specs.Steps.{Step, Run, stays, goes}
use Rattle.fabric_steps.specs.Trace.{Belongs}
use Rattle.fabric_steps.specs.Whole.{Whole}
use Rattle.fabric_steps.specs.Event.{Event, Seen}
use Rattle.fabric_steps.specs.declared.fault.Refusal.{Refusal}
use Rattle.fabric_steps.specs.Faults.{is_memory}
use Rattle.fabric_core.specs.Kept.{IsSoundFabric, records_of}
use Rattle.fabric_core.specs.Answers.{Happens, Refused, answer}
use Rattle.fabric_core.specs.Runs.{has_record}
use Rattle.fabric_settle.specs.Keeping.{Witnessed, IsLossless, Never, WantsMemory}
use Rattle.c_fabric.specs.SessionView.{KeptView, kept_of, last_text, IsKept}
use Rattle.c_fabric.specs.Calls.{IsStep, EventWantsMemory}

-- ---- with a trace

pub record Laws : Type 0 where
  pub run : (p p' : Whole) (rs ss : List Record) → Sound p → Belongs p rs → Run p p' ss → Belongs p' (rs ++ ss)
  pub step : (f f' : Fabric) (event : Event) (what : Seen) → IsSoundFabric f → Happens f event what f' → Step (whole_of f) (whole_of f') (records_of event what (length f.memory.entries))

-- the trace grows by the records of the event, and belongs to the fabric after it
grown : Laws → (f f' : Fabric) (k k' : KeptView) (e : Event) → IsSoundFabric f → Witnessed kept_of f k e f' k' → IsKept f true k.records → IsKept f' true k'.records
grown l f f' k k' e sound w before traced =
    let told = records_of e w.what (length f.memory.entries) in
    let now : k'.records ≡ k.records ++ told = ap (λ (x : KeptView). x.records) w.now in
    subst (λ (rs : List Record). Belongs (whole_of f') rs) (sym now)
    (l.run (whole_of f) (whole_of f') k.records told sound.sound (before traced) (goes stays (l.step f f' e w.what sound w.happens)))

same : (f f' : Fabric) (k k' : KeptView) → f' ≡ f → k' ≡ k → (f' ≡ f) × (k'.records ≡ k.records)
same f f' k k' fabric kept = (fabric, ap (λ (x : KeptView). x.records) kept)

pub stays_session : {T : Type 0} → Laws → (r : Result T Refusal) (f f' : Fabric) (k k' : KeptView) (e : Event) → IsSoundFabric f → OnOk r (Witnessed kept_of f k e f' k')
    → OnErr r (IsLossless Never → (f' ≡ f) × (k' ≡ k)) → IsKept f true k.records → IsKept f' true k'.records
stays_session l (Ok x) f f' k k' e sound ok err before = grown l f f' k k' e sound ok before
stays_session l (Err x) f f' k k' e sound ok err before =
    let p = err (λ event lost. lost) in
    let q = same f f' k k' p.0 p.1 in
    subst (λ (g : Fabric). IsKept g true k'.records) (sym q.0) (subst (λ (rs : List Record). IsKept f true rs) (sym q.1) before)

pub unchanged : {T : Type 0} (r : Result T Refusal) (f f' : Fabric) (k k' : KeptView) → OnErr r (IsLossless Never → (f' ≡ f) × (k' ≡ k)) → OnErr r ((f' ≡ f) × (k'.records ≡ k.records))
unchanged (Ok x) f f' k k' err = err
unchanged (Err x) f f' k k' err =
    let p = err (λ event lost. lost) in
    same f f' k k' p.0 p.1

pub is_step : {T : Type 0} (r : Result T Refusal) (f f' : Fabric) (k k' : KeptView) (e : Event) → OnOk r (Witnessed kept_of f k e f' k')
    → OnOk r (IsStep f true k.records e f' k'.records k'.text)
is_step (Ok x) f f' k k' e w = (w.what, w.happens.0, ap (λ (x : KeptView). x.text) w.now, ap (λ (x : KeptView). x.records) w.now)
is_step (Err x) f f' k k' e w = w

-- ---- without a trace

pub is_untraced : {T : Type 0} (r : Result T Refusal) (f f' : Fabric) (text text' : List ℕ) (e : Event) → OnOk r (Witnessed last_text f text e f' text')
    → OnOk r ((rs : List Record) → IsStep f false rs e f' rs text')
is_untraced (Ok x) f f' text text' e w = λ rs. (w.what, w.happens.0, w.now, refl)
is_untraced (Err x) f f' text text' e w = w

pub at_records : {T : Type 0} (r : Result T Refusal) (f f' : Fabric) (text : List ℕ) (e : Event) (rs : List Record) → OnOk r ((ss : List Record) → IsStep f false ss e f' ss text) → OnOk r (IsStep f false rs e f' rs text)
at_records (Ok x) f f' text e rs h = h rs
at_records (Err x) f f' text e rs h = h

pub fabric_stays : {T : Type 0} (r : Result T Refusal) (f f' : Fabric) {K : Type 0} (k k' : K) → OnErr r (IsLossless Never → (f' ≡ f) × (k' ≡ k)) → OnErr r (f' ≡ f)
fabric_stays (Ok x) f f' k k' err = err
fabric_stays (Err x) f f' k k' err = (err (λ event lost. lost)).0

-- ---- refusals

-- an event that the fabric can't grow for isn't refused
abbrev pub NeverRefused : Type 0
NeverRefused = (f : Fabric) (event : Event) (r : Refusal) → Refused f event r → is_memory r ≡ true → IsOk (answer f event)

of_wanted : NeverRefused → (f : Fabric) (traced : Bool) (e : Event) (N : Type 0) → (N → (traced ≡ true) × (has_record e ≡ true)) → ((r : Refusal) × (is_memory r ≡ true) × Refused f e r) ⊎ (N ⊎ ⊥) → EventWantsMemory f traced e
of_wanted never f traced e N needs (inl x) = inl (never f e x.0 x.2 x.1, x.0, x.1, x.2)
of_wanted never f traced e N needs (inr (inl n)) = inr (needs n)
of_wanted never f traced e N needs (inr (inr lost)) = absurd lost

pub wanted : {T : Type 0} → NeverRefused → (r : Result T Refusal) (f f' : Fabric) (traced : Bool) (e : Event) (needs : Event → Type 0) → (needs e → (traced ≡ true) × (has_record e ≡ true)) → OnErr r (f' ≡ f)
    → IfErr r (λ x. is_memory x ≡ true → WantsMemory needs Never f' e) → IfErr r (λ x. is_memory x ≡ true → EventWantsMemory f traced e)
wanted never (Ok x) f f' traced e needs why same_fabric h = h
wanted never (Err x) f f' traced e needs why same_fabric h = λ memory. of_wanted never f traced e (needs e) why (subst (λ (g : Fabric). WantsMemory needs Never g e) same_fabric (h memory))

pub first_of : {T : Type 0} (r : Result T Refusal) (P A : Refusal → Type 0) (B C : Type 0) → IfErr r (λ x. P x → A x × B × C) → IfErr r (λ x. P x → A x)
first_of (Ok x) P A B C h = h
first_of (Err x) P A B C h = λ p. (h p).0
