use Rattle.std.proofs.Common.{◌≡◌, ◌∙◌, ◌++◌, ◌∷◌, [], ap, refl}
use Rattle.endpoint_core.specs.declared.endpoint.Handled.{Handled}
use Rattle.endpoint_core.specs.Classes.{becomes}
use Rattle.endpoint_core.specs.Steps.{handled}
use Rattle.endpoint_log.specs.Steps.{came}
use Rattle.endpoint_log.specs.Recordings.{log_of}
use Rattle.endpoint_engine.specs.Texts.{handled_text}
use Rattle.endpoint_engine.specs.Lines.{DeviceLines, taken}
use Rattle.endpoint_engine.proofs.lines.Lines.take.Goals as goal

pub returns-clause-ok : goal.returns-clause-ok
returns-clause-ok c =
    let tlp = c.args.tlp.now in
    let before : DeviceLines = record { endpoint = c.self.inside.endpoint; log = log_of c.self.inside.recording } in
    let after : DeviceLines = record { endpoint = c.take.new.endpoint; log = log_of c.take.new.self } in
    let logged : after.log ≡ (taken before tlp).log = c.in_ok-check.ensures (came c.self.inside.endpoint.device (becomes tlp)) c.self.inside.recording c.take.ensures.recording in
    let same : after ≡ taken before tlp = λ j. record { endpoint = c.in_ok-handled.ensures.ok j; log = logged j } in
    let is : c.in_ok-handled.handled ≡ handled c.args.self.now.endpoint tlp = c.in_ok-handled.ensures.answer ∙ ap (λ (u : DeviceLines). handled u.endpoint tlp) c.self.view_is in
    record {
      state = same ∙ ap (λ (u : DeviceLines). taken u tlp) c.self.view_is;
      text = c.in_ok-put_handled.ensures.ok ∙ ap (λ (h : Handled). c.args.out.now.items ++ (handled_text h ++ 10 ∷ [])) is;
      is_fault = refl;
    }
