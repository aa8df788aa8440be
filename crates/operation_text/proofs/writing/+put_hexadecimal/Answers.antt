use Rattle.std.proofs.Common.{◌≤◌, ◌<◌, ◌^◌, ◌≡◌, ◌+◌, ◌++◌, ◌∷◌, ◌%◌, ◌/◌, ◌∙◌, [], List, ℕ, true, length, ap, sym, append_assoc, length-append, arith}
use Rattle.std.specs.Fmt.{digit_glyph}
use Rattle.arrayvec.specs.declared.array_string.ArrayString.{ArrayString}
use Rattle.operation_text.specs.Texts.{hexadecimal, octet_text}
use Rattle.operation_text.proofs.DigitLemmas.{hexadecimal_digit, hexadecimal_octet, hexadecimal_octets}
use Rattle.operation_text.proofs.writing.+put_hexadecimal.Goals.{then-front-lt256, else-front-lt256}
use Rattle.operation_text.proofs.writing.+put_hexadecimal.Goals as goal

-- the digits but the last two, and the last two
front : (n : ℕ) → 256 ≤ n → n < 2 ^ 64 → length (hexadecimal n) ≡ length (hexadecimal (n / 256)) + 2
front n more fits = ap length (hexadecimal_octets n more fits) ∙ length-append (hexadecimal (n / 256)) (octet_text (n % 256))

pub put_byte-requires : goal.put_byte-requires
put_byte-requires t c =
    let n = c.args.number in
    let e = front n c.if-number-ge256.true c.ranges.number.fits in
    omega (arith, e, c.requires)

pub put_hexadecimal-requires : goal.put_hexadecimal-requires
put_hexadecimal-requires t c =
    let e = front c.args.number c.if-number-ge256.true c.ranges.number.fits in
    (omega arith, omega (arith, e, c.requires))

pub write_octet-requires : goal.write_octet-requires
write_octet-requires t c =
    let n = c.args.number in
    let e = front n c.if-number-ge256.true c.ranges.number.fits in
    let written : c.if-front-lt256.out.bytes ≡ c.args.out.now.bytes ++ hexadecimal (n / 256) = elim c.if-front-lt256.branch [
      | then-front-lt256 w ↦ ap (λ (o : ArrayString 512). o.bytes) w.out-is ∙ w.put_byte.ensures.text
      | else-front-lt256 w ↦ ap (λ (o : ArrayString 512). o.bytes) w.out-is ∙ w.put_hexadecimal.ensures
    ] in
    omega (arith, e, ap length written ∙ length-append c.args.out.now.bytes (hexadecimal (n / 256)), c.requires)

pub write_octet-requires-then-number-ge16 : goal.write_octet-requires-then-number-ge16
write_octet-requires-then-number-ge16 t c =
    let e = ap length (hexadecimal_octet c.args.number c.if-number-ge16.true c.if-number-ge256.false) in
    omega (arith, e, c.requires)

pub put_digit-requires-clause-room : goal.put_digit-requires-clause-room
put_digit-requires-clause-room t c =
    let e = ap length (hexadecimal_digit c.args.number c.if-number-ge16.false) in
    omega (arith, e, c.requires)

pub returns-after-front-lt256 : goal.returns-after-front-lt256
returns-after-front-lt256 t c =
    let n = c.args.number in
    let written : c.if-front-lt256.out.bytes ≡ c.args.out.now.bytes ++ hexadecimal (n / 256) = elim c.if-front-lt256.branch [
      | then-front-lt256 w ↦ ap (λ (o : ArrayString 512). o.bytes) w.out-is ∙ w.put_byte.ensures.text
      | else-front-lt256 w ↦ ap (λ (o : ArrayString 512). o.bytes) w.out-is ∙ w.put_hexadecimal.ensures
    ] in
    c.write_octet.ensures.text ∙ ap (λ (b : List ℕ). b ++ octet_text (n % 256)) written
    ∙ append_assoc c.args.out.now.bytes (hexadecimal (n / 256)) (octet_text (n % 256))
    ∙ ap (λ (b : List ℕ). c.args.out.now.bytes ++ b) (sym (hexadecimal_octets n c.if-number-ge256.true c.ranges.number.fits))

pub returns-then-number-ge16 : goal.returns-then-number-ge16
returns-then-number-ge16 t c =
    c.write_octet-then-number-ge16.ensures.text
    ∙ ap (λ (b : List ℕ). c.args.out.now.bytes ++ b) (sym (hexadecimal_octet c.args.number c.if-number-ge16.true c.if-number-ge256.false))

pub returns-else-number-ge16 : goal.returns-else-number-ge16
returns-else-number-ge16 t c =
    let n = c.args.number in
    let same : n % 16 ≡ n = omega (arith, c.if-number-ge16.false) in
    c.put_digit.ensures.text
    ∙ ap (λ (b : List ℕ). c.args.out.now.bytes ++ b) (sym (hexadecimal_digit n c.if-number-ge16.false ∙ ap (λ (k : ℕ). digit_glyph true k ∷ []) same))
