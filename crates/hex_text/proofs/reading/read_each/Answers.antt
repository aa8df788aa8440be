use Rattle.std.proofs.Common.{◌≡◌, ◌∙◌, ◌/◌, List, ℕ, true, false, length, ap, sym, subst, Result, Ok, Err, refl, is_ok}
use Rattle.std.specs.Prelude.{MatchResult, IsErr}
use Rattle.hex.specs.Hex.{decode_of, decode_sized}
use Rattle.hex.specs.declared.error.FromHexError.{FromHexError}
use Rattle.hex_text.proofs.TextLemmas.{decode_sized-half}
use Rattle.hex_text.proofs.reading.read_each.Goals as goal

-- what decoding into a slice tells
abbrev Told : Result (List ℕ) FromHexError → Result (Unit {0}) FromHexError → List ℕ → Type 0
Told r told new = MatchResult r (λ bytes. (told ≡ Ok tt) × (new ≡ bytes)) (λ e. told ≡ Err e)

yes : (r : Result (List ℕ) FromHexError) (told : Result (Unit {0}) FromHexError) (new : List ℕ) → Told r told new → is_ok told ≡ true → r ≡ Ok new
yes (Ok bytes) told new h is = ap Ok (sym h.1)
yes (Err e) told new h is = cc

no : (r : Result (List ℕ) FromHexError) (told : Result (Unit {0}) FromHexError) (new : List ℕ) → Told r told new → is_ok told ≡ false → IsErr r
no (Ok bytes) told new h is = cc
no (Err e) told new h is = refl

half : (digits : List ℕ) (n : ℕ) → n ≡ length digits / 2 → decode_sized digits n ≡ decode_of digits
half digits n e = ap (decode_sized digits) e ∙ decode_sized-half digits

told : (digits : List ℕ) (n : ℕ) (told : Result (Unit {0}) FromHexError) (new : List ℕ) → n ≡ length digits / 2 → Told (decode_sized digits n) told new → Told (decode_of digits) told new
told digits n t new e h = subst (λ (r : Result (List ℕ) FromHexError). Told r t new) (half digits n e) h

pub returns-clause-read : goal.returns-clause-read
returns-clause-read c = λ is.
    yes (decode_of c.args.digits.now) c.decode_to_slice.result c.decode_to_slice.new.out
    (told c.args.digits.now (length c.args.bytes.now) c.decode_to_slice.result c.decode_to_slice.new.out c.requires c.decode_to_slice.ensures.value)
    (sym c.is_ok.ensures.value ∙ is)

pub returns-clause-not_read : goal.returns-clause-not_read
returns-clause-not_read c = λ is.
    no (decode_of c.args.digits.now) c.decode_to_slice.result c.decode_to_slice.new.out
    (told c.args.digits.now (length c.args.bytes.now) c.decode_to_slice.result c.decode_to_slice.new.out c.requires c.decode_to_slice.ensures.value)
    (sym c.is_ok.ensures.value ∙ is)
