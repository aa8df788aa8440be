use Rattle.std.proofs.Common.{◌≡◌}
use Rattle.std.specs.Prelude.{Ok}
use Rattle.std.proofs.lemmas.List.Elements.{All-weaker}
use Rattle.dllp_core.specs.Faults.{reading}
use Rattle.dllp_core.specs.Layout.{FitsFields, Spells, canonical}
use Rattle.lane_laws.proofs.Sent.{all_fit}
use Rattle.lane_laws.proofs.dllps_under_way_are_what_their_bytes_say.Goals as goal

pub returns : goal.returns
returns c = record {
  in_range = all_fit;
  spelled = λ e r. All-weaker FitsFields (λ d. Spells (canonical d) d) (λ d fits. c.canonical_is_read_back.ensures.spelled d fits) e.back (all_fit e r);
  read = λ e r. All-weaker FitsFields (λ d. reading (canonical d) ≡ Ok d) (λ d fits. c.canonical_is_read_back.ensures.read d fits) e.back (all_fit e r);
}
