use Rattle.std.proofs.Common.{◌≡◌, ◌∙◌, ◌++◌, ◌∷◌, ◌<◌, ◌+◌, List, ℕ, [], length, take, get_or, sym, ap, append_assoc, arith, add-zero}
use Rattle.std.proofs.lemmas.List.{append-nil, take_more}
use Rattle.hex.specs.Hex.{encode_upper, encode_with, upper_digits}
use Rattle.hex_text.proofs.HexLemmas.{encode_with-append}
use Rattle.hex_text.proofs.writing.put_last.Goals as goal

-- one byte more
done : (text was now bytes : List ℕ) (i : ℕ) → i < length bytes → was ≡ text ++ encode_upper (take i bytes) → now ≡ was ++ encode_upper (get_or bytes i 0 ∷ [])
    → now ≡ text ++ encode_upper (take (i + 1) bytes)
done text was now bytes i lt before e =
    e ∙ ap (λ (t : List ℕ). t ++ encode_upper (get_or bytes i 0 ∷ [])) before
    ∙ append_assoc text (encode_upper (take i bytes)) (encode_upper (get_or bytes i 0 ∷ []))
    ∙ ap (λ (t : List ℕ). text ++ t) (sym (ap encode_upper (take_more bytes i 0 lt) ∙ encode_with-append upper_digits (take i bytes) (get_or bytes i 0 ∷ [])))

pub loop-byte-init : goal.loop-byte-init
unfolding encode_with
loop-byte-init c = record { done = sym (append-nil _); len = sym (add-zero _) }

pub loop-byte-preserved : goal.loop-byte-preserved
loop-byte-preserved c =
    let h = c.loop-byte.invariant in
    record {
      done = done _ c.loop-byte.text c.extend.new.self c.args.bytes.now c.loop-byte.byte-index c.loop-byte-test.true h.done (c.extend.ensures.text ∙ ap (λ (t : List ℕ). c.loop-byte.text ++ t) c.digits_of.ensures);
      len = omega (arith, h.len, c.extend.ensures.len, ap (length {A = ℕ}) c.digits_of.ensures);
    }
