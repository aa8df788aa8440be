-- How an engine stands in the middle of its input.
use Rattle.std.specs.Prelude.{◌≡◌, ◌≢◌, ℕ, List, ◌++◌, take, fold, filter, All, nat_lt, length, if◌then◌else◌}
use Rattle.std.specs.Io.BufRead.{strip_last, ends_with_byte}
use Rattle.hex_text.specs.Lines.{lines_of}
use Rattle.line_loop.specs.Run.{Responses, Answer, Run, after_line, new_run, run_of, IsBeginning}

-- the run of which all this was written, or waits to be
abbrev pub run_at : {S : Type 0} → S → List ℕ → ℕ → Run S
run_at state text status = record { state = state; text = text; status = status }

-- The engine has read these bytes, and answered their whole lines: some of the text was written, and the rest
-- is pending. It keeps as much of the unfinished line as tells whether it is too long.
pub record Stands {S : Type 0} (r : Responses S) (start state : S) (line pending : List ℕ) (status : ℕ) (written read : List ℕ) : Type 0 where
  pub unfinished : List ℕ
  pub one_line : All (λ b. b ≢ 10) unfinished
  pub kept : line ≡ take 513 unfinished
  pub whole : List (List ℕ)
  pub ended : filter (ends_with_byte 10) whole ≡ whole
  pub cut : (more : List ℕ) → lines_of (read ++ more) ≡ whole ++ lines_of (unfinished ++ more)
  pub answered : fold (after_line r) (new_run start) whole ≡ run_at state (written ++ pending) status

-- what was written, and then what is pending, begins the output of each input that goes on from what was read
abbrev pub Begins : {S : Type 0} → Responses S → S → List ℕ → List ℕ → List ℕ → Type 0
Begins r start pending written read = (more : List ℕ) → IsBeginning (written ++ pending) (run_of r start (read ++ more)).text

-- the answer to a line, of which this is said if it isn't too long
abbrev pub on_said : {S : Type 0} → Responses S → S → List ℕ → List ℕ → Answer S
on_said r s line said = if nat_lt 512 (length line) then r.on_long_line s else r.on_line s said

-- the answer to a line that a line feed ended, given without it
abbrev pub on_ended_line : {S : Type 0} → Responses S → S → List ℕ → Answer S
on_ended_line r s line = on_said r s line (strip_last 13 line)

-- the answer to a line that the end of the input ended
abbrev pub on_last_line : {S : Type 0} → Responses S → S → List ℕ → Answer S
on_last_line r s line = on_said r s line line

-- all that was read is answered, its last line too
abbrev pub IsAnswered : {S : Type 0} → Responses S → S → S → List ℕ → ℕ → List ℕ → List ℕ → Type 0
IsAnswered r start state pending status written read =
    fold (after_line r) (new_run start) (lines_of read) ≡ run_at state (written ++ pending) status
