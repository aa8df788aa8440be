-- The answer to the text of a log: a status, and what `pciex search` prints, in the caller's buffer.
use Rattle.std.specs.Prelude.{ℕ, ◌≡◌, ◌==◌, false, nat_lt, if◌then◌else◌, List, length, Option, Some, None, Result, Ok, Err}
use Rattle.log_pieces.specs.declared.Granularity.{Granularity}
use Rattle.log_pieces.specs.declared.Granularity.TheVariants.{Four, Eight, Sixteen, SixtyFour, Whole}
use Rattle.c_buffer.specs.declared.outcome.Failure.{Failure}
use Rattle.c_buffer.specs.declared.outcome.Failure.TheVariants.{SmallBuffer}
use Rattle.c_buffer.specs.Buffer.{copied}
use Rattle.search_engine.specs.declared.options.TheConstants.{DEFAULT_WORK}
use Rattle.search_engine.specs.Bounded.{within}
use Rattle.search_engine.specs.Search.{OutSearchFor}

-- an answer of `search` for pieces of that size, within so many choices and the work that the program does by default, stands at
-- the front of the buffer, if it has as many bytes
pub record IsSearchedIn (granularity : Granularity) (limit : ℕ) (text buffer buffer' : List ℕ) (size : ℕ) (outcome : Result ℕ Failure) : Type 0 where
  pub answer : List ℕ
  pub status : ℕ
  pub answers : OutSearchFor false granularity (within limit DEFAULT_WORK) text answer status
  pub size_is : size ≡ length answer
  pub outcome_is : outcome ≡ (if nat_lt (length buffer) (length answer) then Err SmallBuffer else Ok status)
  pub buffer_is : buffer' ≡ (copied buffer answer).buffer

-- the same of requests that act as a whole
abbrev pub IsSearched : ℕ → List ℕ → List ℕ → List ℕ → ℕ → Result ℕ Failure → Type 0
IsSearched limit text buffer buffer' size outcome = IsSearchedIn Whole limit text buffer buffer' size outcome

-- the size of pieces by its number of bytes, 0 for whole requests
abbrev pub granularity_of : ℕ → Option Granularity
granularity_of n =
    if n == 0 then Some Whole
    else (if n == 4 then Some Four
    else (if n == 8 then Some Eight
    else (if n == 16 then Some Sixteen
    else (if n == 64 then Some SixtyFour else None))))
