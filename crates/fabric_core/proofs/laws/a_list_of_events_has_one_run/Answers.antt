use Rattle.std.proofs.Common.{◌≡◌, ◌++◌, ◌∷◌, [], List, length, sym, ap, subst, ◌∙◌, Result, Ok, Err}
use Rattle.history_words.specs.Records.{Record}
use Rattle.fabric_steps.specs.Fabric.{Fabric}
use Rattle.fabric_steps.specs.Event.{Event, Seen}
use Rattle.fabric_steps.specs.declared.fault.Refusal.{Refusal}
use Rattle.fabric_core.specs.Kept.{records_of}
use Rattle.fabric_core.specs.Runs.{Runs}
use Rattle.fabric_core.proofs.laws.a_list_of_events_has_one_run.Goals as goal

abbrev got : Result (Seen × Fabric) Refusal → Seen × Fabric → Seen × Fabric
got (Ok p) d = p
got (Err r) d = d

one_run : (f g g' : Fabric) (events : List Event) (rs rs' : List Record) → Runs f events rs g → Runs f events rs' g' → (rs ≡ rs') × (g ≡ g')
one_run f g g' [] rs rs' r r' = (r.0 ∙ sym r'.0, r.1 ∙ sym r'.1)
one_run f g g' (e ∷ es) rs rs' r r' =
    let both : (r.0, r.1) ≡ (r'.0, r'.1) = ap (λ (x : Result (Seen × Fabric) Refusal). got x (r.0, r.1)) (sym r.3.0 ∙ r'.3.0) in
    let what : r.0 ≡ r'.0 = ap (λ (p : Seen × Fabric). p.0) both in
    let next : r.1 ≡ r'.1 = ap (λ (p : Seen × Fabric). p.1) both in
    let more = one_run r.1 g g' es r.2 r'.2 r.4 (subst (λ (x : Fabric). Runs x es r'.2 g') (sym next) r'.4) in (
      r.5 ∙ ap (λ (w : Seen). records_of e w (length f.memory.entries) ++ r.2) what ∙ ap (λ (l : List Record). records_of e r'.0 (length f.memory.entries) ++ l) more.0 ∙ sym r'.5,
      more.1,
    )

pub returns : goal.returns
returns c = one_run
