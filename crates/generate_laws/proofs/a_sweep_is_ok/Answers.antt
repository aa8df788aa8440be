use Rattle.std.proofs.Common.{◌∙◌, ap, subst}
use Rattle.std.specs.Io.KnownBytes.{Appends}
use Rattle.sweep_engine.specs.Sweep.{Swept, whole_text}
use Rattle.generate_laws.proofs.Sweeping.{EndsWell, whole}
use Rattle.generate_laws.proofs.a_sweep_is_ok.Goals as goal

ends_well : goal.After-nothing_generated_is_refused → EndsWell
ends_well c =
    let refused = c.nothing_generated_is_refused.ensures in
    record { step = refused.status; check = refused.ok_status; clocked = refused.clocked_status }

pub returns : goal.returns
returns c = record {
  written = λ o out out' exit w. subst (λ (s : Swept). Appends out out' (whole_text s)) (whole (ends_well c) o out out' exit w) w.written;
  status = λ o out out' exit w. w.exit_status ∙ ap (λ (s : Swept). s.status) (whole (ends_well c) o out out' exit w);
}
