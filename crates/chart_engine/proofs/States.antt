-- What a line leaves.
use Rattle.std.proofs.Common.{◌≡◌, ◌∙◌, List, ℕ, Bool, false, refl, sym, ap, subst, Option, Some, None, Ok, Err}
use Rattle.std.specs.Prelude.{is_some, codes}
use Rattle.std.proofs.lemmas.List.{append-nil}
use Rattle.fabric_steps.specs.Fabric.{Fabric}
use Rattle.fabric_core.specs.declared.config.Config.{Config}
use Rattle.fabric_core.specs.declared.config.ConfigFault.{ConfigFault}
use Rattle.fabric_steps.specs.Event.{Event, Seen}
use Rattle.fabric_steps.specs.declared.fault.Refusal.{Refusal}
use Rattle.fabric_core.specs.Config.{fault_name}
use Rattle.fabric_core.specs.Answers.{answer}
use Rattle.fabric_core.specs.New.{new_fabric, config_fault}
use Rattle.script_text.specs.Names.{refusal_text}
use Rattle.line_loop.specs.declared.verdict.Verdict.{Verdict}
use Rattle.line_loop.specs.declared.verdict.Verdict.TheVariants as verdicts
use Rattle.line_loop.specs.Run.{IsAnswer}
use Rattle.chart_engine.specs.declared.chart.Session.{Session}
use Rattle.chart_engine.specs.Chart as spec
use Rattle.chart_engine.specs.ChartWitnessView.{ChartWitnessView}
use Rattle.chart_engine.specs.Chart.{CharterView, new_witness, session, next_line, witnessed, refused_with}

pub none_of : {X : Type 0} (o : Option X) → is_some o ≡ false → o ≡ None
none_of None e = refl
none_of (Some x) e = absurd cc

-- the fabric of the script is made, with its chart
pub is_made : (s new : CharterView) (c : Config) (f : Fabric) (chart : ChartWitnessView) (out : List ℕ) → s.session ≡ None → config_fault c ≡ None → f ≡ new_fabric c
    → chart ≡ new_witness s.window c.requesters → new ≡ record s { lines = next_line s; session = Some (session f chart) } → IsAnswer new out out verdicts.Fine (spec.quiet (spec.made_once s s.session c))
is_made s new c f chart out none fault made charts now =
    subst (λ (l : CharterView × Bool). IsAnswer new out out verdicts.Fine (spec.quiet l)) (sym (ap (λ (o : Option Session). spec.made_once s o c) none ∙ ap (spec.made s c) fault))
    (record {
      state = now ∙ ap (λ (g : Fabric). record s { lines = next_line s; session = Some (session g chart) }) made
          ∙ ap (λ (v : ChartWitnessView). record s { lines = next_line s; session = Some (session (new_fabric c) v) }) charts;
      text = sym (append-nil out);
      is_fault = refl;
    })

pub not_made : (s new : CharterView) (c : Config) (x : ConfigFault) (out : List ℕ) (verdict : Verdict) → s.session ≡ None → config_fault c ≡ Some x
    → IsAnswer new out out verdict (spec.quiet (spec.fault s (fault_name x))) → IsAnswer new out out verdict (spec.quiet (spec.made_once s s.session c))
not_made s new c x out verdict none fault answer =
    subst (λ (l : CharterView × Bool). IsAnswer new out out verdict (spec.quiet l)) (sym (ap (λ (o : Option Session). spec.made_once s o c) none ∙ ap (spec.made s c) fault)) answer

-- an event happened, or it was refused: the line is the next one, and the fabric and its chart are these
pub happens : (s new : CharterView) (p : Session) (line : ℕ) (event : Event) (what : Seen) (f : Fabric) (chart : ChartWitnessView) (out : List ℕ) → s.session ≡ Some p → line ≡ next_line s
    → answer p.fabric event ≡ Ok (what, f) → chart ≡ witnessed p.chart line event what f → new ≡ record s { lines = next_line s; session = Some (session f chart) }
    → IsAnswer new out out verdicts.Fine (spec.quiet (spec.happened s s.session event))
happens s new p line event what f chart out some number is told now =
    subst (λ (l : CharterView × Bool). IsAnswer new out out verdicts.Fine (spec.quiet l)) (sym (ap (λ (o : Option Session). spec.happened s o event) some ∙ ap (spec.answered s p event) is))
    (record {
      state = now ∙ ap (λ (v : ChartWitnessView). record s { lines = next_line s; session = Some (session f v) }) (told ∙ ap (λ (n : ℕ). witnessed p.chart n event what f) number);
      text = sym (append-nil out);
      is_fault = refl;
    })

pub is_refused : (s mid new : CharterView) (p : Session) (line : ℕ) (event : Event) (why : Refusal) (f : Fabric) (chart : ChartWitnessView) (out : List ℕ) (verdict : Verdict) → s.session ≡ Some p → line ≡ next_line s
    → answer p.fabric event ≡ Err why → f ≡ p.fabric → chart ≡ refused_with p.chart line event why f → mid ≡ record s { session = Some (session f chart) }
    → IsAnswer new out out verdict (spec.quiet (spec.ends mid mid.session (spec.told mid (codes "refused ") (refusal_text why)))) → IsAnswer new out out verdict (spec.quiet (spec.happened s s.session event))
is_refused s mid new p line event why f chart out verdict some number is same told left answers =
    let now : session f chart ≡ session p.fabric (refused_with p.chart (next_line s) event why p.fabric) =
    ap (session f) (told ∙ ap (λ (n : ℕ). refused_with p.chart n event why f) number) ∙ ap (λ (g : Fabric). session g (refused_with p.chart (next_line s) event why g)) same in
    subst (λ (l : CharterView × Bool). IsAnswer new out out verdict (spec.quiet l)) (sym (ap (λ (o : Option Session). spec.happened s o event) some ∙ ap (spec.answered s p event) is))
    (subst (λ (q : Session). IsAnswer new out out verdict (spec.quiet (spec.ends s (Some q) (spec.told s (codes "refused ") (refusal_text why))))) now
    (subst (λ (m : CharterView). IsAnswer new out out verdict (spec.quiet (spec.ends m m.session (spec.told m (codes "refused ") (refusal_text why))))) left answers))
