use Rattle.std.proofs.Common.{◌≡◌, ◌∙◌, ◌++◌, ◌∷◌, [], Option, ap, refl}
use Rattle.tlp_core.specs.TlpView.{TlpView}
use Rattle.endpoint_core.specs.Steps.{next_completion}
use Rattle.endpoint_log.specs.Steps as log
use Rattle.endpoint_log.specs.Recordings.{log_of}
use Rattle.endpoint_engine.specs.Texts.{completion_text}
use Rattle.endpoint_engine.specs.Lines.{DeviceLines, acted}
use Rattle.endpoint_engine.proofs.lines.Lines.next.Goals as goal

pub returns-clause-ok : goal.returns-clause-ok
returns-clause-ok c =
    let before : DeviceLines = record { endpoint = c.self.inside.endpoint; log = log_of c.self.inside.recording } in
    let after : DeviceLines = record { endpoint = c.act-completion.new.endpoint; log = log_of c.act-completion.new.self } in
    let logged : after.log ≡ (acted before).log = c.in_ok-check.ensures (log.acted c.self.inside.endpoint) c.self.inside.recording c.act-completion.ensures.recording in
    let same : after ≡ acted before = λ j. record { endpoint = c.act-completion.ensures.endpoint j; log = logged j } in
    let is : c.act-completion.result ≡ next_completion c.args.self.now.endpoint = c.act-completion.ensures.completion ∙ ap (λ (u : DeviceLines). next_completion u.endpoint) c.self.view_is in
    record {
      state = same ∙ ap (λ (u : DeviceLines). acted u) c.self.view_is;
      text = c.in_ok-put_completion.ensures.ok ∙ ap (λ (o : Option TlpView). c.args.out.now.items ++ (completion_text o ++ 10 ∷ [])) is;
      is_fault = refl;
    }
