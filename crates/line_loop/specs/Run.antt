-- What a subcommand makes of its input, line by line.
use Rattle.std.specs.Prelude.{◌≡◌, ◌⊎◌, ℕ, List, [], ◌++◌, Bool, true, false, nat_lt, if◌then◌else◌, length, fold, Option, IfSome}
use Rattle.std.specs.Io.KnownBytes.{Appends, Consumes, IsAtEnd}
use Rattle.hex_text.specs.Lines.{lines_of, ended_lines, bare, said}
use Rattle.line_loop.specs.declared.verdict.Verdict.{Verdict}
use Rattle.line_loop.specs.declared.verdict.Verdict.TheVariants as verdicts

-- what one line makes: the state after it, the text that is written, and whether the exit status tells a fault
pub record Answer (S : Type 0) : Type 0 where
  pub state : S
  pub text : List ℕ
  pub is_fault : Bool

-- what a subcommand answers to a line, to one over the limit, and to the end of the input
pub record Responses (S : Type 0) : Type 0 where
  pub on_line : S → List ℕ → Answer S
  pub on_long_line : S → Answer S
  pub on_end : S → Answer S

-- a run so far, or a whole one: the state, all that is written, and the exit status
pub record Run (S : Type 0) : Type 0 where
  pub state : S
  pub text : List ℕ
  pub status : ℕ

-- a line has at most 512 bytes before its line feed: that is tested first
abbrev pub answer_to : {S : Type 0} → Responses S → S → List ℕ → Answer S
answer_to r s line = if nat_lt 512 (length (bare line)) then r.on_long_line s else r.on_line s (said line)

-- a run with one more answer
abbrev pub with_answer : {S : Type 0} → Run S → Answer S → Run S
with_answer run a = record { state = a.state; text = run.text ++ a.text; status = if a.is_fault then 1 else run.status }

-- a run with one more line
abbrev pub after_line : {S : Type 0} → Responses S → Run S → List ℕ → Run S
after_line r run line = with_answer run (answer_to r run.state line)

-- a run whose input has ended
abbrev pub after_end : {S : Type 0} → Responses S → Run S → Run S
after_end r run = with_answer run (r.on_end run.state)

-- nothing written, status 0
abbrev pub new_run : {S : Type 0} → S → Run S
new_run start = record { state = start; text = []; status = 0 }

-- the whole run on an input, from a state on
abbrev pub run_of : {S : Type 0} → Responses S → S → List ℕ → Run S
run_of r start input = after_end r (fold (after_line r) (new_run start) (lines_of input))

abbrev pub is_fault : Verdict → Bool
is_fault verdicts.Fine = false
is_fault verdicts.Fault = true

-- a call made this answer: it left this state, wrote this text, and returned this verdict
pub record IsAnswer {S : Type 0} (new : S) (before after : List ℕ) (verdict : Verdict) (a : Answer S) : Type 0 where
  pub state : new ≡ a.state
  pub text : after ≡ before ++ a.text
  pub is_fault : is_fault verdict ≡ a.is_fault

-- the first is a first part of the second, perhaps all of it
abbrev pub IsBeginning : List ℕ → List ℕ → Type 0
IsBeginning done all = (rest : List ℕ) × (all ≡ done ++ rest)

-- the input was read to its end, and the run's output on it was written
pub record IsWhole {S : Type 0} (run : List ℕ → Run S) (input rest out out' : Option (List ℕ)) (exit : ℕ) : Type 0 where
  pub read : List ℕ
  pub consumed : Consumes input rest read
  pub at_end : IsAtEnd rest
  pub written : Appends out out' (run read).text
  pub exit_status : exit ≡ (run read).status

-- what was written begins the run's output on what was read, and on the whole input where that is known
pub record IsPart {S : Type 0} (run : List ℕ → Run S) (input rest out out' : Option (List ℕ)) : Type 0 where
  pub read : List ℕ
  pub done : List ℕ
  pub consumed : Consumes input rest read
  pub written : Appends out out' done
  pub begins : IsBeginning done (run read).text
  pub begins_all : IfSome input (λ all. IsBeginning done (run all).text)

-- what was written is the answers to all the lines that have ended in what was read
pub record IsCaughtUp {S : Type 0} (r : Responses S) (start : S) (input rest out out' : Option (List ℕ)) : Type 0 where
  pub read : List ℕ
  pub consumed : Consumes input rest read
  pub written : Appends out out' (fold (after_line r) (new_run start) (ended_lines read)).text

-- the whole output was written, and the exit status is the run's; or a prefix of it, and the exit status is 1
abbrev pub IsRun : {S : Type 0} → (List ℕ → Run S) → Option (List ℕ) → Option (List ℕ) → Option (List ℕ) → Option (List ℕ) → ℕ → Type 0
IsRun run input rest out out' exit = IsWhole run input rest out out' exit ⊎ ((exit ≡ 1) × IsPart run input rest out out')
