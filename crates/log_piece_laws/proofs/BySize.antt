-- The law of devices, by sizes.
use Rattle.std.proofs.Common.{◌≡◌, ℕ, List, Some}
use Rattle.std.proofs.lemmas.Option.{same_Some}
use Rattle.seq_memory.specs.Limits.{Extent}
use Rattle.log_runs.specs.Explainable.{IsExplainable}
use Rattle.log_pieces.specs.declared.Granularity.{Granularity}
use Rattle.log_pieces.specs.declared.Granularity.TheVariants as sizes
use Rattle.log_pieces.specs.Pieces.{pieces}
use Rattle.log_pieces.specs.InPieces.{cut_log, in_pieces, IsExplainableIn}
use Rattle.log_piece_laws.specs.Device.{Device, Step, new_device, Leads, seen_of}
use Rattle.log_piece_laws.specs.Sizes.{bytes_of}
use Rattle.log_piece_laws.proofs.Replies.{Posted, posted_pieces, parts_of_replies}
use Rattle.log_piece_laws.proofs.Running.{Named, Grows, explained_run}
use Rattle.std.proofs.Common.{sym, subst}

explained : Named → Grows → Posted → (bytes : ℕ) (x : Extent) (steps : List Step) (d : Device) → Leads (pieces bytes x) x (new_device x) steps d → IsExplainable (cut_log bytes (seen_of x d))
explained named grows posted bytes x steps d leads =
    explained_run x (pieces bytes x) named grows (record { posted = posted_pieces posted x bytes; replied = parts_of_replies x bytes }) steps d leads

-- in pieces of the size that is asked for
at_size : Named → Grows → Posted → (m bytes : ℕ) (x : Extent) (steps : List Step) (d : Device) → Some m ≡ Some bytes → Leads (pieces bytes x) x (new_device x) steps d → IsExplainable (cut_log m (seen_of x d))
at_size named grows posted m bytes x steps d is leads =
    explained named grows posted m x steps d (subst (λ (n : ℕ). Leads (pieces n x) x (new_device x) steps d) (sym (same_Some m bytes is)) leads)

pub device_explained : Named → Grows → Posted → (size : Granularity) (bytes : ℕ) (x : Extent) (steps : List Step) (d : Device) → bytes_of size ≡ Some bytes → Leads (pieces bytes x) x (new_device x) steps d → IsExplainableIn size (seen_of x d)
unfolding in_pieces
device_explained named grows posted sizes.Four bytes x steps d is leads = at_size named grows posted 4 bytes x steps d is leads
device_explained named grows posted sizes.Eight bytes x steps d is leads = at_size named grows posted 8 bytes x steps d is leads
device_explained named grows posted sizes.Sixteen bytes x steps d is leads = at_size named grows posted 16 bytes x steps d is leads
device_explained named grows posted sizes.SixtyFour bytes x steps d is leads = at_size named grows posted 64 bytes x steps d is leads
device_explained named grows posted sizes.Whole bytes x steps d is leads = absurd (cc is)
