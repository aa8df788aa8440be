use Rattle.std.proofs.Common.{◌≡◌, ◌+◌, ◌-◌, ◌*◌, ◌∷◌, ◌∙◌, ℕ, [], ap, take, drop, arith}
use Rattle.std.proofs.lemmas.Str.{IsCharBoundary-from_ascii}
use Rattle.hex.specs.Hex.{encode_upper}
use Rattle.hex_text.proofs.tables.pair_of.Goals as goal

pub range-requires-clause-start_boundary : goal.range-requires-clause-start_boundary
range-requires-clause-start_boundary c =
    λ some. IsCharBoundary-from_ascii c.digits.result.now (2 * c.from-start.result) c.digits.ensures.ascii (omega (arith, c.digits.ensures.len, c.from-start.ensures, c.ranges.byte.fits))

pub range-requires-clause-end_boundary : goal.range-requires-clause-end_boundary
range-requires-clause-end_boundary c =
    IsCharBoundary-from_ascii c.digits.result.now (2 * c.from-start.result + 2) c.digits.ensures.ascii (omega (arith, c.digits.ensures.len, c.from-start.ensures, c.ranges.byte.fits))

pub returns-clause-text : goal.returns-clause-text
returns-clause-text c =
    let start = 2 * c.from-start.result in
    let two : (start + 2) - start ≡ 2 = omega arith in
    c.range.ensures.value
    ∙ ap (λ (n : ℕ). take n (drop start c.digits.result.now)) two
    ∙ c.digits.ensures.pairs c.from-start.result (omega (arith, c.from-start.ensures, c.ranges.byte.fits))
    ∙ ap (λ (b : ℕ). encode_upper (b ∷ [])) c.from-start.ensures
