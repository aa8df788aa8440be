-- The reasons of a run that are to be written.
use Rattle.std.specs.Prelude.{ℕ, List, codes}

-- the number of the line that was answered last, how many reasons were told, one more where it was also told that there
-- are no more, and the text that is to be written
pub record ReasonLinesView : Type 0 where
  pub number : ℕ
  pub told : ℕ
  pub text : List ℕ

-- what is written in place of the first reason that isn't told
abbrev pub last_line : List ℕ
last_line = codes "pciex: 1000 reasons are told; further lines aren't explained\n"
