use Rattle.std.proofs.Common.{sym, subst, codes}
use Rattle.clap.specs.Words.{found_of, first_of, rows_of}
use Rattle.config_core.specs.SetupView.{SetupView}
use Rattle.cli_values.specs.Endpoints.{WritesId, WritesSize}
use Rattle.cli_words.proofs.devices.device_in.Goals as goal

pub returns-clause-ok : goal.returns-clause-ok
returns-clause-ok c =
    let rows = rows_of (found_of c.args.endpoint.now) in
    record {
      size_read = subst (λ (s : SetupView). WritesSize (first_of (codes "size") rows) s.size) (sym c.setup_of.ensures) c.in_ok-size.ensures.ok;
      id_read = subst (λ (s : SetupView). WritesId (first_of (codes "id") rows) (s.vendor, s.device)) (sym c.setup_of.ensures) c.in_ok-ids.ensures.ok;
    }
