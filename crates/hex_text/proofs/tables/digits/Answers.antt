use Rattle.std.proofs.Common.{refl}
use Rattle.hex_text.proofs.HexLemmas.{pairs-at, ascii-of}
use Rattle.hex_text.proofs.tables.digits.Goals as goal

pub returns-clause-len : goal.returns-clause-len
returns-clause-len c = refl

pub returns-clause-pairs : goal.returns-clause-pairs
returns-clause-pairs c = pairs-at _ refl

pub returns-clause-ascii : goal.returns-clause-ascii
returns-clause-ascii c = ascii-of _ (returns-clause-pairs c) refl
