-- Lines whose digits are those of no bytes.
use Rattle.std.proofs.Common.{◌≡◌, ℕ, List, refl, Result, Ok, Err}
use Rattle.std.specs.Prelude.{IsErr}
use Rattle.hex.specs.declared.error.FromHexError.{FromHexError}
use Rattle.endpoint_engine.specs.Lines.{DeviceLines, answer_tlp, no_line}

pub unread : (u : DeviceLines) (r : Result (List ℕ) FromHexError) → IsErr r → answer_tlp u r ≡ no_line u
unread u (Err e) h = refl
unread u (Ok bytes) h = cc
