use Rattle.std.proofs.Common.{◌∙◌, ap, slice_index}
use Rattle.std.specs.Int.{bytes_low_first}
use Rattle.hex_text.specs.declared.tables.TheConstants.{PAIRS}
use Rattle.hex_text.proofs.HexLemmas.{pair-at}
use Rattle.hex_text.proofs.tables.digits_of.Goals as goal

pub returns : goal.returns
returns c = c.to_le_bytes.ensures ∙ ap (λ i. bytes_low_first 0 2 (slice_index PAIRS i)) c.from.ensures ∙ pair-at c.args.byte c.ranges.byte.fits
