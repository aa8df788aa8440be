-- Lines whose packets and DLLPs are of no form.
use Rattle.std.proofs.Common.{◌≡◌, ℕ, List, refl, Result, Ok, Err}
use Rattle.std.specs.Prelude.{IsErr}
use Rattle.hex.specs.declared.error.FromHexError.{FromHexError}
use Rattle.link_crc.specs.declared.check.Check.{Check}
use Rattle.linked_engine.specs.declared.frames.Mark.{Mark}
use Rattle.linked_engine.specs.Lines.{LinkLines, answer_packet_bytes, answer_dllp_bytes, no_line}

pub no_packet : (u : LinkLines) (r : Result (List ℕ) FromHexError) (mark : Mark) → IsErr r → answer_packet_bytes u r mark ≡ no_line u
no_packet u (Err e) mark h = refl
no_packet u (Ok bytes) mark h = cc

pub no_dllp : (u : LinkLines) (r : Result (List ℕ) FromHexError) (check : Check) → IsErr r → answer_dllp_bytes u r check ≡ no_line u
no_dllp u (Err e) check h = refl
no_dllp u (Ok bytes) check h = cc
