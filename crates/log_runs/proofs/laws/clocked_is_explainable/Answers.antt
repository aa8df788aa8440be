use Rattle.std.proofs.Common.{refl}
use Rattle.log_runs.proofs.Alike.{same_records}
use Rattle.log_runs.proofs.laws.clocked_is_explainable.Goals as goal

pub returns : goal.returns
returns c = λ t h good clocked. (t, h, record { base = refl; size = refl; block = refl; records = same_records t.records }, good, clocked)
