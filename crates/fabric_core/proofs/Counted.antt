-- The submissions of a run whose events submit one operation.
use Rattle.std.proofs.Common.{ℕ, ◌≡◌, ◌+◌, suc, arith, List, [], ◌∷◌, ◌++◌, length, Some, refl, sym, ap, subst}
use Rattle.std.specs.Prelude.{slice_get}
use native.Mathlib.Decide.{ℕ_discrete}
use mathlib.Core.Logic.{dite}
use Rattle.std.proofs.Common.{eq-eqb}
use Rattle.std.proofs.lemmas.Bool.{ne_eqb}
use Rattle.tlp_core.specs.Ops.{Op}
use Rattle.history_words.specs.Records.{Record}
use Rattle.history_words.specs.declared.record.RecordOf.TheVariants.{Sub}
use Rattle.history_words.specs.Trace.{submissions}
use Rattle.fabric_steps.specs.Fabric.{Fabric}
use Rattle.fabric_steps.specs.Lists.{Each}
use Rattle.fabric_steps.specs.Event.{Event, Seen}
use Rattle.fabric_steps.specs.declared.event.EventOf.TheVariants as events
use Rattle.fabric_steps.specs.declared.event.SeenOf.TheVariants as seen
use Rattle.fabric_core.specs.Kept.{IsSoundFabric, records_of}
use Rattle.fabric_core.specs.Runs.{Runs}
use Rattle.fabric_core.proofs.Runs.{Each as EachEvent}

pub runs_sound : EachEvent → (f g : Fabric) (es : List Event) (rs : List Record) → IsSoundFabric f → Runs f es rs g → IsSoundFabric g
runs_sound l f g [] rs s r = subst IsSoundFabric (sym r.1) s
runs_sound l f g (e ∷ es) rs s r = runs_sound l r.1 g es r.2 (l.sound f r.1 e r.0 s r.3) r.4

abbrev IsAll : Op → List Op → Type 0
IsAll x ops = Each (λ y. y ≡ x) ops

one_submission : (x op : Op) (i port number n : ℕ) (rs : List Record) → op ≡ x → IsAll x (submissions rs i) → IsAll x (submissions (Sub port number op n ∷ rs) i)
one_submission x op i port number n rs is rest = dite (ℕ_discrete i port)
    (λ own. rw (eq-eqb i port own) (is, rest))
    (λ ne. rw (ne_eqb i port ne) rest)

one_event : (x : Op) (e : Event) (what : Seen) (n i : ℕ) (rs : List Record) → ((port : ℕ) (op : Op) → e ≡ events.Submit port op → op ≡ x) → IsAll x (submissions rs i) → IsAll x (submissions (records_of e what n ++ rs) i)
one_event x (events.Submit port op) (seen.Submitted number) n i rs is rest = one_submission x op i port number n rs (is port op refl) rest
one_event x (events.Submit port op) (seen.Sent seq) n i rs is rest = rest
one_event x (events.Submit port op) (seen.Delivered arrival) n i rs is rest = rest
one_event x (events.Submit port op) (seen.SentDllp dllp) n i rs is rest = rest
one_event x (events.Submit port op) (seen.SeenDllp dllp) n i rs is rest = rest
one_event x (events.Submit port op) (seen.Back places) n i rs is rest = rest
one_event x (events.Submit port op) seen.Retrained n i rs is rest = rest
one_event x (events.Submit port op) (seen.To to) n i rs is rest = rest
one_event x (events.Submit port op) (seen.At place) n i rs is rest = rest
one_event x (events.Submit port op) (seen.Collected a) n i rs is rest = rest
one_event x (events.Collect port) (seen.Submitted number) n i rs is rest = rest
one_event x (events.Collect port) (seen.Sent seq) n i rs is rest = rest
one_event x (events.Collect port) (seen.Delivered arrival) n i rs is rest = rest
one_event x (events.Collect port) (seen.SentDllp dllp) n i rs is rest = rest
one_event x (events.Collect port) (seen.SeenDllp dllp) n i rs is rest = rest
one_event x (events.Collect port) (seen.Back places) n i rs is rest = rest
one_event x (events.Collect port) seen.Retrained n i rs is rest = rest
one_event x (events.Collect port) (seen.To to) n i rs is rest = rest
one_event x (events.Collect port) (seen.At place) n i rs is rest = rest
one_event x (events.Collect port) (seen.Collected a) n i rs is rest = rest
one_event x (events.Transmit name) what n i rs is rest = rest
one_event x (events.Deliver name fate) what n i rs is rest = rest
one_event x (events.SendDllp name kind) what n i rs is rest = rest
one_event x (events.DeliverDllp name fate) what n i rs is rest = rest
one_event x (events.Timer name) what n i rs is rest = rest
one_event x (events.Retrained name) what n i rs is rest = rest
one_event x (events.Forward name place) what n i rs is rest = rest
one_event x (events.Serve place) what n i rs is rest = rest

pub all_one : (x : Op) (f g : Fabric) (es : List Event) (rs : List Record) → ((place port : ℕ) (op : Op) → slice_get es place ≡ Some (events.Submit port op) → op ≡ x) → Runs f es rs g → (i : ℕ) → IsAll x (submissions rs i)
all_one x f g [] rs is r i = subst (λ (ys : List Record). IsAll x (submissions ys i)) (sym r.0) tt
all_one x f g (e ∷ es) rs is r i =
    subst (λ (ys : List Record). IsAll x (submissions ys i)) (sym r.5)
    (one_event x e r.0 (length f.memory.entries) i r.2 (λ port op at. is 0 port op (ap Some at))
    (all_one x r.1 g es r.2 (λ place port op at. is (suc place) port op at) r.4 i))

pub none_more : (n : ℕ) → 0 + n ≡ n
none_more n = omega arith
