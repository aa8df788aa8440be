use Rattle.std.proofs.Common.{◌∙◌, sym, ap, arith}
use Rattle.std.proofs.Common.{List, ℕ, length}
use Rattle.search_effects.proofs.Answered.{data_length, needless}
use Rattle.search_effects.proofs.seeing.never_gives.Goals as goal

pub returns-then-bytes-size : goal.returns-then-bytes-size
returns-then-bytes-size c = λ yes base block m d items answered.
    let size = data_length c.args.op.now base block m d answered in
    let long = ap (λ (xs : List ℕ). length xs) items in
    absurd (omega (arith, size, long, c.if-bytes-size.true, c.size.ensures.value))

pub returns-then-is_read : goal.returns-then-is_read
returns-then-is_read c = λ yes.
    needless c.args.op.now c.args.bytes.now (c.is_read.ensures c.if-is_read.true) (c.has_needless.ensures yes)
