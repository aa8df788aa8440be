-- Packets that have a check.
use Rattle.std.proofs.Common.{◌≡◌, ◌∙◌, ℕ, List, Option, Some, sym, ap}
use Rattle.link_crc.specs.declared.check.Check.{Check}
use Rattle.linked_engine.specs.Lines.{LinkLines, answer_arrival, answer_checked}

pub arrives : (u : LinkLines) (o : Option Check) (check : Check) (p q : List ℕ) → o ≡ Some check → p ≡ q → answer_arrival u p check ≡ answer_checked u o q
arrives u o check p q e f = ap (λ (x : List ℕ). answer_arrival u x check) f ∙ sym (ap (λ (x : Option Check). answer_checked u x q) e)
