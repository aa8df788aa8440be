-- Laws of the texts.
use Rattle.std.proofs.Common.{◌≡◌, ℕ, ◌+◌, ◌/◌, ◌%◌, [], ◌∷◌, ◌<◌, ◌≤◌, length, refl, arith, lit≤, ◌^◌}
use Rattle.std.specs.Fmt.{decimal}
use Rattle.std.proofs.lemmas.Fmt.{decimal_digit, decimal_step}
use Rattle.tlp_core.specs.declared.fault.TlpFault.{TlpFault}
use Rattle.tlp_core.specs.declared.fault.TlpFault.TheVariants as faults
use Rattle.tlp_core.specs.Fault.{number_of, name_of}

-- a number of two digits
pub decimal-two : (n : ℕ) → 10 ≤ n → n < 100 → decimal n ≡ (48 + n / 10) ∷ (48 + n % 10) ∷ []
decimal-two n more small =
    let tens : n / 10 < 10 = omega arith in
    let fits : n < 2 ^ 64 = omega arith in
    rw (decimal_step n more fits, decimal_digit (n / 10) tens) refl

pub decimal-one : (n : ℕ) → n < 10 → decimal n ≡ (48 + n % 10) ∷ []
decimal-one n small =
    let same : n % 10 ≡ n = omega arith in
    rw same (decimal_digit n small)

-- how long the texts of a fault are
pub number-small : (f : TlpFault) → number_of f < 100
number-small faults.Short = omega arith
number-small faults.Prefix = omega arith
number-small faults.Kind = omega arith
number-small faults.TenBitTag = omega arith
number-small faults.Hints = omega arith
number-small faults.Digest = omega arith
number-small faults.Poisoned = omega arith
number-small faults.Translated = omega arith
number-small faults.LengthMismatch = omega arith
number-small faults.PayloadTooLong = omega arith
number-small faults.ByteEnables = omega arith
number-small faults.OperandSize = omega arith
number-small faults.Unaligned = omega arith

pub name-short : (f : TlpFault) → length (name_of f) ≤ 14
name-short faults.Short = lit≤ tt
name-short faults.Prefix = lit≤ tt
name-short faults.Kind = lit≤ tt
name-short faults.TenBitTag = lit≤ tt
name-short faults.Hints = lit≤ tt
name-short faults.Digest = lit≤ tt
name-short faults.Poisoned = lit≤ tt
name-short faults.Translated = lit≤ tt
name-short faults.LengthMismatch = lit≤ tt
name-short faults.PayloadTooLong = lit≤ tt
name-short faults.ByteEnables = lit≤ tt
name-short faults.OperandSize = lit≤ tt
name-short faults.Unaligned = lit≤ tt

pub ruleset text_rules = (decimal-one, decimal-two, number-small, name-short)
