use Rattle.std.proofs.Common.{◌∙◌, ◌≤◌, ℕ, List, ◌++◌, length, Ok, sym, ap, arith}
use Rattle.linked_engine.proofs.Numbered.{numbered}
use Rattle.linked_engine.proofs.packet_line.read_numbered.Goals as goal

pub returns : goal.returns
returns c = λ is.
    let long = c.if-line-lt5.false in
    let some : 5 ≤ length c.args.line.now = omega (arith, long) in
    numbered c.args.line.now c.read_digits.new.bytes c.read.new.self some c.if-line-ne32.false (c.read_digits.ensures.read c.if-not-read_digits.false) (c.read.ensures.read c.if-not-read.false)
    ∙ ap Ok (sym (c.join.ensures is ∙ ap (λ (t : List ℕ). c.read_digits.new.bytes ++ t) c.bytes.ensures))
