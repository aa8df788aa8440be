use Rattle.std.proofs.Common.{◌≡◌, ◌++◌, ◌∙◌, List, ℕ, length, ap, sym, arith}
use Rattle.operation_text.proofs.DigitLemmas.{decimal_two, one_digit}
use Rattle.operation_text.proofs.writing.put_small.Goals as goal

pub put_two-requires-clause-room : goal.put_two-requires-clause-room
put_two-requires-clause-room c =
    let e = ap length (decimal_two c.args.number c.if-number-ge10.true c.requires.number) in
    omega (arith, e, c.requires.room)

pub put_one-requires-clause-room : goal.put_one-requires-clause-room
put_one-requires-clause-room c =
    let e = ap length (one_digit c.args.number c.if-number-ge10.false) in
    omega (arith, e, c.requires.room)

pub returns-then-number-ge10 : goal.returns-then-number-ge10
returns-then-number-ge10 c =
    c.put_two.ensures.text ∙ ap (λ (b : List ℕ). c.args.out.now.bytes ++ b) (sym (decimal_two c.args.number c.if-number-ge10.true c.requires.number))
