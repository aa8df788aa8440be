use Rattle.std.proofs.Common.{◌≡◌, ◌<◌, length, drop, get_or, arith}
use Rattle.operation_text.proofs.FewBytesLemmas.{eight-last, eight-first}
use Rattle.operation_text.proofs.fields.few_bytes.Goals.{else-line-gt8-via-then-line-gt8+else-line-ne32, else-line-gt8-via-else-line-gt8}
use Rattle.operation_text.proofs.fields.few_bytes.Goals as goal

pub returns-then-line-eq8-clause-field : goal.returns-then-line-eq8-clause-field
returns-then-line-eq8-clause-field c =
    eight-last c.args.line.now c.read_digits.new.bytes (drop 4 c.args.room.now) c.if-line-eq8.true (c.read_digits.ensures.read c.if-not-read_digits.false)

pub returns-clause-field : goal.returns-clause-field
returns-clause-field c =
    let line = c.args.line.now in
    let more : 8 < length line = omega (arith, c.if-line-lt8.false, c.if-line-eq8.false) in
    let space : get_or line 8 0 ≡ 32 =
    elim c.else-line-gt8.branch [
      | else-line-gt8-via-then-line-gt8+else-line-ne32 w ↦ w.if-line-ne32.false
      | else-line-gt8-via-else-line-gt8 w ↦ absurd (omega (arith, w.if-line-gt8.false, more))
    ] in
    eight-first line c.read_digits.new.bytes (drop 4 c.args.room.now) more space (c.read_digits.ensures.read c.if-not-read_digits.false)
