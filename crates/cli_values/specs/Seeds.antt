-- What the value of an option writes that says of which seeds a sweep is.
use Rattle.std.specs.Prelude.{◌==◌, ◌≤◌, ℕ, List, Option, Some, None}
use Rattle.std.specs.List.{before_first, after_first}
use Rattle.clap.specs.Lexer.{strip_byte}
use Rattle.cli_options.specs.declared.options.ValueOption.TheVariants.{Seed}
use Rattle.cli_options.specs.Values.{Gives}

-- FIRST..LAST: what stands before the first '.' (46), and what follows another '.' right behind it
abbrev pub first_digits : List ℕ → List ℕ
first_digits text = before_first (λ b. b == 46) text

abbrev pub rest_of : List ℕ → List ℕ
rest_of text = after_first (λ b. b == 46) text

abbrev pub last_digits : List ℕ → Option (List ℕ)
last_digits text = strip_byte 46 (rest_of text)

-- these are two seeds in decimal digits, in order
pub record IsRange (text : List ℕ) (first last : ℕ) : Type 0 where
  pub first_read : Gives Seed None (Some (first_digits text)) first
  pub last_read : Gives Seed None (last_digits text) last
  pub ordered : first ≤ last

-- the first seed and the last, which have to be given
abbrev pub WritesSeeds : Option (List ℕ) → ℕ × ℕ → Type 0
WritesSeeds None seeds = ⊥
WritesSeeds (Some text) seeds = IsRange text seeds.0 seeds.1
