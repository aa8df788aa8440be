use Rattle.std.proofs.Common.{rules, ◌≡◌, ◌∙◌, List, ℕ, false, refl, sym, ap, subst, Option, Some, None}
use Rattle.std.specs.Prelude.{is_some}
use Rattle.std.proofs.lemmas.List.{append-nil}
use Rattle.fabric_core.specs.New.{new_fabric, config_fault}
use Rattle.fabric_steps.specs.Fabric.{Fabric}
use Rattle.line_loop.specs.declared.verdict.Verdict.TheVariants as verdicts
use Rattle.line_loop.specs.Run.{IsAnswer}
use Rattle.step_engine.specs.Step.{StepperView, next_line, made, made_once}
use Rattle.step_engine.proofs.step.Stepper.make.Goals as goal

none_of : {X : Type 0} (o : Option X) → is_some o ≡ false → o ≡ None
none_of None e = refl
none_of (Some x) e = absurd cc

-- the fabric of the script is made
is_made : (s : StepperView) (c : _) (f : Fabric) (new : StepperView) (out : List ℕ) → s.fabric ≡ None → config_fault c ≡ None → f ≡ new_fabric c
    → new ≡ record s { lines = next_line s; fabric = Some f } → IsAnswer new out out verdicts.Fine (made_once s s.fabric c)
is_made s c f new out none fault made_is now =
    subst (IsAnswer new out out verdicts.Fine) (sym (ap (λ (o : Option Fabric). made_once s o c) none ∙ ap (made s c) fault))
    (record { state = now ∙ ap (λ (g : Fabric). record s { lines = next_line s; fabric = Some g }) made_is; text = sym (append-nil out); is_fault = refl })

pub returns-in-Ok-clause-ok : goal.returns-in-Ok-clause-ok
returns-in-Ok-clause-ok g c =
    is_made c.args.self.now c.args.config c.in-Ok.fabric c.count.new.self c.args.out.now.items
    (sym (ap (λ (s : StepperView). s.fabric) c.self.view_is) ∙ none_of c.self.inside.fabric (sym c.is_some.ensures ∙ c.if-is_some.false)) c.in-Ok.ensures.faultless c.in-Ok.ensures.new (search rules)
