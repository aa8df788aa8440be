-- Events, by their headers.
use Rattle.std.proofs.Common.{◌≡◌, ℕ, Bool, Option, Some, None}
use Rattle.std.specs.Prelude.{is_some, option_map}
use Rattle.tlp_core.specs.Operation.{address_of, count_of, is_posted}
use Rattle.tlp_core.specs.Ops.{Op}
use Rattle.seq_memory.specs.Entries.{Reply}
use Rattle.log_runs.specs.EventView.{EventView}
use Rattle.log_runs.specs.EventView as events
use Rattle.log_runs.specs.Headers.{header_of}
use Rattle.log_runs.specs.declared.log.EventHeader.TheVariants as headers

pub sub_headed : (o : Option EventView) (i : ℕ) (posted answered : Bool) (a size : ℕ) → option_map header_of o ≡ Some (headers.Sub i posted answered a size)
    → (op : Op) × (told : Option Reply) × (o ≡ Some (events.Sub i op told)) × (is_posted op ≡ posted) × (is_some told ≡ answered) × (address_of op ≡ a) × (count_of op ≡ size)
sub_headed (Some (events.Sub j op told)) i posted answered a size e = (op, told, cc, cc, cc, cc, cc)
sub_headed (Some (events.Due b)) i posted answered a size e = absurd cc
sub_headed (Some events.Free) i posted answered a size e = absurd cc
sub_headed None i posted answered a size e = absurd cc

pub due_headed : (o : Option EventView) (b : ℕ) → option_map header_of o ≡ Some (headers.Due b) → o ≡ Some (events.Due b)
due_headed (Some (events.Sub j w had)) b e = absurd cc
due_headed (Some (events.Due c)) b e = cc
due_headed (Some events.Free) b e = absurd cc
due_headed None b e = absurd cc

pub free_headed : (o : Option EventView) → option_map header_of o ≡ Some headers.Free → o ≡ Some events.Free
free_headed (Some (events.Sub j w had)) e = absurd cc
free_headed (Some (events.Due c)) e = absurd cc
free_headed (Some events.Free) e = cc
free_headed None e = absurd cc
