-- What a session holds after a settlement.
use Rattle.std.proofs.Common.{ℕ, ◌≡◌, ◌∙◌, ◌+◌, ◌<◌, ◌≤◌, Bool, if◌then◌else◌, List, [], ◌∷◌, ◌++◌, zero, suc, length, drop, get_or, fold, append_assoc, drop-cons, sym, ap, subst, arith}
use Rattle.std.proofs.lemmas.List.{append-nil}
use Rattle.history_words.specs.Records.{Record}
use Rattle.fabric_steps.specs.Fabric.{Fabric, whole_of}
use Rattle.fabric_steps.specs.Steps.{stays, goes}
use Rattle.fabric_steps.specs.Trace.{Belongs}
use Rattle.fabric_steps.specs.Event.{Event, Seen}
use Rattle.fabric_core.specs.Kept.{IsSoundFabric, records_of}
use Rattle.fabric_core.specs.Answers.{Happens}
use Rattle.fabric_settle.specs.Happenings.{Happening, Leads}
use Rattle.fabric_settle.specs.Keeping.{with_record}
use Rattle.fabric_settle.specs.Rounds.{settlement}
use Rattle.script_text.specs.Texts.{told_text}
use Rattle.c_fabric.specs.SessionView.{SessionView, SettledView, IsKept, settled_of, unsettled, collected_lines}
use Rattle.c_fabric.specs.Calls.{settled, Leaves, IsReached}
use Rattle.c_fabric.proofs.EventLemmas.{Laws}

-- ---- the trace

pub record AllLaws : Type 0 where
  pub laws : Laws
  pub sound : (f f' : Fabric) (event : Event) (what : Seen) → IsSoundFabric f → Happens f event what f' → IsSoundFabric f'

-- a kept trace belongs to the fabric after each event
pub keeps : AllLaws → (hs : List Happening) (f f' : Fabric) (k : SettledView) → IsSoundFabric f → Leads Happens f hs f' → IsKept f k.is_traced k.records
    → IsKept f' k.is_traced (fold settled_of k hs).records
keeps l [] f f' k sound led before = subst (λ (g : Fabric). IsKept g k.is_traced k.records) (sym led) before
keeps l (h ∷ hs) f f' k sound led before =
    let sound_before : IsSoundFabric h.before = subst IsSoundFabric (sym led.0) sound in
    let told = records_of h.event h.what (length h.before.memory.entries) in
    let step = l.laws.step h.before h.after h.event h.what sound_before led.1 in
    let after : IsKept h.after k.is_traced (settled_of k h).records =
    λ traced. subst (λ (t : Bool). Belongs (whole_of h.after) (if t then with_record k.records h else k.records)) (sym traced)
    (l.laws.run (whole_of h.before) (whole_of h.after) k.records told sound_before.sound (subst (λ (g : Fabric). Belongs (whole_of g) k.records) (sym led.0) (before traced)) (goes stays step)) in
    keeps l hs h.after f' (settled_of k h) (l.sound h.before h.after h.event h.what sound_before led.1) led.2 after

-- ---- the session

abbrev pub session_with : SessionView → Fabric → SettledView → SessionView
session_with s f k = record { fabric = f; is_traced = s.is_traced; records = k.records; collected = k.collected }

pub settled_is : (s : SessionView) (f' : Fabric) (k' : SettledView) → f' ≡ (settlement s.fabric).fabric → k' ≡ fold settled_of (unsettled s) (settlement s.fabric).happened
    → session_with s f' k' ≡ settled s
settled_is s f' k' same kept = ap (λ (g : Fabric). session_with s g k') same ∙ ap (session_with s (settlement s.fabric).fabric) kept

pub reached_is : (s : SessionView) (f' : Fabric) (k' : SettledView) → Leaves s.fabric (unsettled s) f' k' → IsReached s (session_with s f' k')
reached_is s f' k' l = record { happened = l.happened; led = l.led; now = ap (session_with s f') l.now }

-- ---- what was collected, line by line

pub line-next : (rs : List Record) (i : ℕ) (r : Record) (text text' : List ℕ) → i < length rs → r ≡ get_or rs i r → text' ≡ text ++ (told_text r ++ 10 ∷ [])
    → text' ++ collected_lines (drop (i + 1) rs) ≡ text ++ collected_lines (drop i rs)
unfolding collected_lines
line-next rs i r text text' lt is g =
    let next : i + 1 ≡ suc i = omega arith in
    let cut : drop i rs ≡ r ∷ drop (suc i) rs = drop-cons rs i r lt ∙ ap (λ (y : Record). y ∷ drop (suc i) rs) (sym is) in
    let later = collected_lines (drop (suc i) rs) in
    let whole : collected_lines (drop i rs) ≡ told_text r ++ 10 ∷ later = ap collected_lines cut in
    ap (λ (t : List ℕ). t ++ collected_lines (drop (i + 1) rs)) g
    ∙ ap (λ (n : ℕ). (text ++ (told_text r ++ 10 ∷ [])) ++ collected_lines (drop n rs)) next
    ∙ append_assoc text (told_text r ++ 10 ∷ []) later
    ∙ ap (λ (t : List ℕ). text ++ t) (append_assoc (told_text r) (10 ∷ []) later ∙ sym whole)

pub line-past : (rs : List Record) (i : ℕ) (text : List ℕ) → length rs ≤ i → text ≡ text ++ collected_lines (drop i rs)
unfolding collected_lines
line-past [] zero text le = sym (append-nil text)
line-past [] (suc i) text le = sym (append-nil text)
line-past (x ∷ xs) zero text le = absurd (omega arith)
line-past (x ∷ xs) (suc i) text le = line-past xs i text (omega arith)
