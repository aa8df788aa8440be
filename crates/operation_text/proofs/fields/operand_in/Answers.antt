use Rattle.std.proofs.Common.{◌≡◌, ◌≢◌, ℕ, ◌*◌, ◌==◌, Bool, true, false, List, length, sym, refl, arith, None, Result, Ok, Err}
use Rattle.std.specs.Prelude.{◌||◌, nat_lt, cond}
use Rattle.std.proofs.lemmas.Bool.{ne_eqb}
use Rattle.hex.specs.Hex.{decode_of}
use Rattle.hex.specs.declared.error.FromHexError.{FromHexError}
use Rattle.hex.proofs.HexLemmas.{decode_of-ok}
use Rattle.operation_text.specs.Words.{then_with}
use Rattle.operation_text.specs.Numbers.{operand_of, decoded}
use Rattle.operation_text.proofs.fields.operand_in.Goals as goal

-- no operand has another number of bytes
no_operand : (bytes : List ℕ) → length bytes ≢ 4 → length bytes ≢ 8 → length bytes ≢ 16 → operand_of bytes ≡ None
no_operand bytes four eight sixteen = rw (ne_eqb (length bytes) 4 four, ne_eqb (length bytes) 8 eight, ne_eqb (length bytes) 16 sixteen) refl

-- of as many digits none is read
none_of : (word : List ℕ) (r : Result (List ℕ) FromHexError) → decode_of word ≡ r → length word ≢ 8 → length word ≢ 16 → length word ≢ 32
    → then_with (decoded r) operand_of ≡ None
none_of word (Err e) is eight sixteen many = refl
none_of word (Ok bytes) is eight sixteen many =
    let twice : length word ≡ 2 * length bytes = (decode_of-ok word bytes is).2 in
    no_operand bytes (λ e. eight (omega (arith, e, twice))) (λ e. sixteen (omega (arith, e, twice))) (λ e. many (omega (arith, e, twice)))

none : (word : List ℕ) (t : Bool) → length word ≢ 8 → length word ≢ 16 → length word ≢ 32
    → then_with (cond t None (decoded (decode_of word))) operand_of ≡ None
none word true eight sixteen many = refl
none word false eight sixteen many = none_of word (decode_of word) refl eight sixteen many

pub returns-then-word-ne32 : goal.returns-then-word-ne32
returns-then-word-ne32 c = sym (none c.args.word.now ((length c.args.word.now == 0) || nat_lt 256 (length c.args.word.now)) c.if-word-ne8.true c.if-word-ne16.true c.if-word-ne32.true)
