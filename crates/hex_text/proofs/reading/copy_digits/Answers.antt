use Rattle.std.proofs.Common.{◌≡◌, ◌≢◌, ◌∙◌, ◌+◌, ◌==◌, ◌<◌, ◌++◌, ◌∷◌, ℕ, false, List, [], not, length, take, get_or, ap, ap₂, sym, refl, arith, length-set}
use Rattle.std.proofs.Math.ListN.{set}
use Rattle.std.proofs.lemmas.Bool.Decides.{nat_tests}
use Rattle.std.proofs.lemmas.List.{take_more, take_more_set, take-set, append-nil}
use Rattle.std.proofs.lemmas.List.Elements.{filter-append}
use Rattle.hex_text.specs.Line.{digits_of}
use Rattle.hex_text.proofs.reading.copy_digits.Goals as goal
use Rattle.hex_text.proofs.reading.copy_digits.Goals.{then-byte-ne32, else-byte-ne32}

-- one more byte of the line
one : (line : List ℕ) (i : ℕ) → i < length line → digits_of (take (i + 1) line) ≡ digits_of (take i line) ++ digits_of (get_or line i 0 ∷ [])
one line i lt = ap digits_of (take_more line i 0 lt) ∙ filter-append (λ (b : ℕ). not (b == 32)) (take i line) (get_or line i 0 ∷ [])

-- a digit
digit : (b : ℕ) → b ≢ 32 → digits_of (b ∷ []) ≡ b ∷ []
digit b ne = let test : (b == 32) ≡ false = grind (arith, nat_tests) in rw test refl

-- a space
space : (b : ℕ) → b ≡ 32 → digits_of (b ∷ []) ≡ []
space b e = rw e refl

added : (line room : List ℕ) (count count' i : ℕ) → i < length line → count < length room → take count room ≡ digits_of (take i line)
    → get_or line i 0 ≢ 32 → count' ≡ count + 1 → take count' (set room count (get_or line i 0)) ≡ digits_of (take (i + 1) line)
added line room count count' i lt fits before ne e =
    ap (λ (n : ℕ). take n (set room count (get_or line i 0))) e ∙ take_more_set room count (get_or line i 0) fits
    ∙ ap₂ (λ (a b : List ℕ). a ++ b) before (sym (digit (get_or line i 0) ne)) ∙ sym (one line i lt)

skipped : (line room : List ℕ) (count count' i : ℕ) → i < length line → take count room ≡ digits_of (take i line)
    → get_or line i 0 ≡ 32 → count' ≡ count → take count' (set room count (get_or line i 0)) ≡ digits_of (take (i + 1) line)
skipped line room count count' i lt before is e =
    ap (λ (n : ℕ). take n (set room count (get_or line i 0))) e ∙ take-set room count (get_or line i 0) ∙ before
    ∙ sym (append-nil (digits_of (take i line))) ∙ ap (λ (t : List ℕ). digits_of (take i line) ++ t) (sym (space (get_or line i 0) is)) ∙ sym (one line i lt)

pub loop-byte-preserved : goal.loop-byte-preserved
loop-byte-preserved c =
    let h = c.loop-byte.invariant in
    let line = c.args.line.now in
    let room = c.loop-byte.room in
    let i = c.loop-byte.byte-index in
    let lt = c.loop-byte-test.true in
    let fits : c.loop-byte.count < length room = omega (arith, h.few, h.same, lt, c.requires) in
    let same : length (set room c.loop-byte.count (get_or line i 0)) ≡ 512 = length-set room c.loop-byte.count (get_or line i 0) ∙ h.same in
    elim c.if-byte-ne32.branch [
      | then-byte-ne32 w ↦ record {
        digits = added line room c.loop-byte.count c.if-byte-ne32.count i lt fits h.digits w.if-byte-ne32.true w.count-is;
        few = omega (arith, w.count-is, h.few);
        same = same;
      }
      | else-byte-ne32 w ↦ record {
        digits = skipped line room c.loop-byte.count c.if-byte-ne32.count i lt h.digits w.if-byte-ne32.false w.count-is;
        few = omega (arith, w.count-is, h.few);
        same = same;
      }
    ]
