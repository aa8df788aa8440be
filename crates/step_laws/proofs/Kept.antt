-- What holds of the fabric of a script and of its records, whatever happens.
use Rattle.std.proofs.Common.{◌≡◌, ℕ, zero, suc, ◌<◌, ◌≤◌, false, List, [], ◌∷◌, ◌++◌, length, Some, All, sym, ap, subst, arith}
use Rattle.std.specs.Prelude.{◌==◌, fold, slice_get, Option, None, Result, Ok}
use Rattle.std.proofs.lemmas.Bool.Decides.{nat_tests}
use Rattle.std.proofs.lemmas.List.Elements.{All-nil, All-cons, All-append}
use Rattle.std.proofs.lemmas.Option.{slice_get_within}
use Rattle.history_words.specs.Records.{Record}
use Rattle.history_words.specs.declared.record.RecordOf.TheVariants as records
use Rattle.fabric_steps.specs.Fabric.{Fabric, whole_of}
use Rattle.fabric_steps.specs.Lists.{Each}
use Rattle.fabric_steps.specs.Steps.{Step}
use Rattle.fabric_steps.specs.Trace.{submitted_by, submission_count}
use Rattle.requester_core.specs.RequesterView.{RequesterView, IsSound}
use Rattle.fabric_steps.specs.Event.{Event, Seen}
use Rattle.fabric_steps.specs.declared.event.EventOf.TheVariants as events
use Rattle.fabric_core.specs.declared.config.Config.{Config}
use Rattle.fabric_steps.specs.declared.fault.Refusal.{Refusal}
use Rattle.fabric_steps.specs.declared.fault.Refusal.TheVariants as refusals
use Rattle.fabric_core.specs.Answers.{answer, part_at, some_or, Happens}
use Rattle.fabric_core.specs.ByParts.{HappensByParts}
use Rattle.fabric_core.specs.Config.{IsNewWith}
use Rattle.fabric_core.specs.Kept.{IsSoundFabric, IsNoSubmission, records_of}
use Rattle.fabric_core.specs.Quiet.{IsQuiet}
use Rattle.fabric_settle.specs.Happenings.{Happening, Leads}
use Rattle.fabric_settle.specs.Rounds.{settlement}
use Rattle.fabric_settle.specs.Keeping.{with_record}
use Rattle.trace_text.specs.Tellable.{IsRequest}
use Rattle.step_laws.proofs.Spelled.{Range, short-op}
use Rattle.step_laws.proofs.Requests.{IsSpellable, next-is, submit-fits}
use Rattle.step_laws.proofs.Load.{IsBalanced, balanced-step, balanced-new}
use Rattle.step_laws.proofs.Requesters.{AreCalled, AreSound, called-after, called-new, called-sound}
use Rattle.log_text.specs.ToldSubmissions.{IsToldSub}
use Rattle.step_laws.proofs.Lines.{IsSaid}

pub record Laws : Type 0 where
  pub range : Range
  pub spellable : IsSpellable
  pub are_sound : AreSound
  pub new_sound : (c : Config) (f : Fabric) → IsNewWith c f → IsSoundFabric f
  pub new_quiet : (c : Config) (f : Fabric) → IsNewWith c f → IsQuiet f
  pub new_empty : (c : Config) (f : Fabric) → IsNewWith c f → f.memory.entries ≡ []
  pub new_counted : (c : Config) (f : Fabric) → IsNewWith c f → submission_count [] ≡ submitted_by (whole_of f).requesters
  pub step : (f f' : Fabric) (event : Event) (what : Seen) → IsSoundFabric f → Happens f event what f' → Step (whole_of f) (whole_of f') (records_of event what (length f.memory.entries))
  pub keeps : (f f' : Fabric) (event : Event) (what : Seen) → IsSoundFabric f → Happens f event what f' → IsSoundFabric f'
  pub parts : (f f' : Fabric) (event : Event) (what : Seen) → Happens f event what f' → HappensByParts f event what f'
  pub happens : (f f' : Fabric) (event : Event) (what : Seen) → IsSoundFabric f → IsNoSubmission event → answer f event ≡ Ok (what, f') → Happens f event what f'
  pub settles : (f : Fabric) → IsSoundFabric f → Leads Happens f (settlement f).happened (settlement f).fabric
  pub submits_none : (f : Fabric) → Each (λ (h : Happening). IsNoSubmission h.event) (settlement f).happened

-- a fabric that a script made, and the records of what happened to it
pub record IsGood (f : Fabric) (rs : List Record) : Type 0 where
  pub sound : IsSoundFabric f
  pub called : AreCalled f.requesters
  pub balanced : IsBalanced (whole_of f)
  pub told : All IsToldSub rs

pub good-new : Laws → (c : Config) (f : Fabric) → IsNewWith c f → IsGood f []
good-new l c f n = record {
  sound = l.new_sound c f n;
  called = called-new c f n;
  balanced = balanced-new f (l.new_quiet c f n) (l.new_empty c f n) (l.new_counted c f n);
  told = All-nil IsToldSub;
}

-- ---- an event that a line says

pub requester-sound : Laws → (f : Fabric) (rs : List Record) → IsGood f rs → (i : ℕ) (q : RequesterView) → slice_get f.requesters i ≡ Some q → IsSound q
requester-sound l f rs g = called-sound l.are_sound f.requesters g.sound.lanes.few g.called

there : {X : Type 0} (parts : List X) (port : ℕ) (x : X) → part_at parts port ≡ Ok x → (i : ℕ) × (slice_get parts i ≡ Some x)
there parts zero x e = absurd cc
there {X} parts (suc i) x e = (i, by (slice_get parts i) e)
  where
    same : (y : X) → ◌≡◌ {A = Result X Refusal} (Ok y) (Ok x) → y ≡ x
    same y e = cc

    by : (o : Option X) → some_or refusals.NoSuchPart o ≡ Ok x → o ≡ Some x
    by None e = absurd cc
    by (Some y) e = ap Some (same y e)

pub happens-said : Laws → (f f' : Fabric) (rs : List Record) (event : Event) (what : Seen) → IsGood f rs → IsSaid event → answer f event ≡ Ok (what, f') → Happens f event what f'
happens-said l f f' rs (events.Submit port op) what g s e =
    (e, λ q at. let here = there f.requesters port q at in submit-fits l.spellable q op (requester-sound l f rs g here.0 q here.1) (short-op l.range op s))
happens-said l f f' rs (events.Transmit lane) what g s e = l.happens f f' (events.Transmit lane) what g.sound tt e
happens-said l f f' rs (events.Deliver lane fate) what g s e = l.happens f f' (events.Deliver lane fate) what g.sound tt e
happens-said l f f' rs (events.SendDllp lane kind) what g s e = l.happens f f' (events.SendDllp lane kind) what g.sound tt e
happens-said l f f' rs (events.DeliverDllp lane fate) what g s e = l.happens f f' (events.DeliverDllp lane fate) what g.sound tt e
happens-said l f f' rs (events.Timer lane) what g s e = l.happens f f' (events.Timer lane) what g.sound tt e
happens-said l f f' rs (events.Retrained lane) what g s e = l.happens f f' (events.Retrained lane) what g.sound tt e
happens-said l f f' rs (events.Forward lane place) what g s e = l.happens f f' (events.Forward lane place) what g.sound tt e
happens-said l f f' rs (events.Serve place) what g s e = l.happens f f' (events.Serve place) what g.sound tt e
happens-said l f f' rs (events.Collect port) what g s e = l.happens f f' (events.Collect port) what g.sound tt e

below-all : (k next : ℕ) → k ≡ next → next ≤ 4294967295 → (next == 4294967295) ≡ false → k < 4294967295
below-all k next e most left = grind (arith, nat_tests)

records-told : (f f' : Fabric) (event : Event) (what : Seen) (n : ℕ) → length f.requesters ≤ 7 → HappensByParts f event what f' → IsSaid event → All IsToldSub (records_of event what n)
records-told f f' (events.Submit port op) what n few (number, same, s) said =
    let q = s.requester in
    let next = next-is q op number s.submits.request s.submits.is_prepared in
    let within = slice_get_within f.requesters s.place q s.has_requester.there in
    let port_is = s.has_requester.is_port in
    let request : IsRequest port number =
    (omega (arith, port_is), omega (arith, port_is, within, few), below-all number q.next next.number s.submits.sound.numbers next.left) in
    subst (λ (w : Seen). All IsToldSub (records_of (events.Submit port op) w n)) (sym same)
    (All-cons IsToldSub (records.Sub port number op n) [] (request, said) (All-nil IsToldSub))
records-told f f' (events.Transmit lane) what n few p said = All-nil IsToldSub
records-told f f' (events.Deliver lane fate) what n few p said = All-nil IsToldSub
records-told f f' (events.SendDllp lane kind) what n few p said = All-nil IsToldSub
records-told f f' (events.DeliverDllp lane fate) what n few p said = All-nil IsToldSub
records-told f f' (events.Timer lane) what n few p said = All-nil IsToldSub
records-told f f' (events.Retrained lane) what n few p said = All-nil IsToldSub
records-told f f' (events.Forward lane place) what n few p said = All-nil IsToldSub
records-told f f' (events.Serve place) what n few p said = All-nil IsToldSub
records-told f f' (events.Collect port) what n few (a, same, s) said =
    subst (λ (w : Seen). All IsToldSub (records_of (events.Collect port) w n)) (sym same)
    (All-cons IsToldSub (records.Ans port a.number a.reply n) [] tt (All-nil IsToldSub))

pub good-after : Laws → (f f' : Fabric) (rs : List Record) (event : Event) (what : Seen) → IsGood f rs → IsSaid event → Happens f event what f' → IsGood f' (rs ++ records_of event what (length f.memory.entries))
good-after l f f' rs event what g said h =
    let parts = l.parts f f' event what h in
    let more = records_of event what (length f.memory.entries) in
    record {
      sound = l.keeps f f' event what g.sound h;
      called = called-after f f' event what parts g.called;
      balanced = balanced-step (whole_of f) (whole_of f') more (l.step f f' event what g.sound h) g.balanced;
      told = All-append IsToldSub rs more g.told (records-told f f' event what (length f.memory.entries) g.sound.lanes.few parts said);
    }

-- ---- a settlement

no-submission : (event : Event) → IsNoSubmission event → IsSaid event
no-submission (events.Submit port op) n = absurd n
no-submission (events.Transmit lane) n = tt
no-submission (events.Deliver lane fate) n = tt
no-submission (events.SendDllp lane kind) n = tt
no-submission (events.DeliverDllp lane fate) n = tt
no-submission (events.Timer lane) n = tt
no-submission (events.Retrained lane) n = tt
no-submission (events.Forward lane place) n = tt
no-submission (events.Serve place) n = tt
no-submission (events.Collect port) n = tt

led-good : Laws → (hs : List Happening) (f g : Fabric) (rs : List Record) → IsGood f rs → Leads Happens f hs g → Each (λ (h : Happening). IsNoSubmission h.event) hs → IsGood g (fold with_record rs hs)
led-good l [] f g rs good led none = subst (λ (x : Fabric). IsGood x rs) (sym led) good
led-good l (h ∷ hs) f g rs good led none =
    let here = subst (λ (x : Fabric). IsGood x rs) (sym led.0) good in
    led-good l hs h.after g (with_record rs h) (good-after l h.before h.after rs h.event h.what here (no-submission h.event none.0) led.1) led.2 none.1

pub good-settled : Laws → (f : Fabric) (rs : List Record) → IsGood f rs → IsGood (settlement f).fabric (fold with_record rs (settlement f).happened)
good-settled l f rs good = led-good l (settlement f).happened f (settlement f).fabric rs good (l.settles f good.sound) (l.submits_none f)
