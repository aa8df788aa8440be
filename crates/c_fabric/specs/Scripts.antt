-- A script's lines, done one after the other into one buffer.
use Rattle.std.specs.Prelude.{ℕ, ⊤, ◌≡◌, ◌+◌, ◌<◌, nat_lt, Bool, false, if◌then◌else◌, List, [], ◌∷◌, ◌++◌, length, take, drop, slice_set, fold, Option, Some, Result, Ok, Err}
use Rattle.hex_text.specs.Lines.{lines_of, said, is_skipped}
use Rattle.c_buffer.specs.declared.outcome.Failure.{Failure}
use Rattle.c_buffer.specs.declared.outcome.Failure.TheVariants.{SmallBuffer}
use Rattle.c_fabric.specs.SessionView.{SessionView}
use Rattle.c_fabric.specs.Calls.{EventCall, unmoved, event_call, IsEventCall}

-- ---- a line

-- a line feed behind the result
abbrev pub with_feed : EventCall → Result ℕ Failure → EventCall
with_feed c (Ok n) = record { outcome = Ok (n + 1); session = c.session; buffer = slice_set c.buffer n 10 }
with_feed c (Err f) = c

abbrev pub fed : EventCall → EventCall
fed c = with_feed c c.outcome

-- empty lines and comments are skipped; the buffer has a byte more than an event requires, for the line feed
abbrev pub line_call : SessionView → List ℕ → List ℕ → EventCall
line_call s line buffer =
    if is_skipped line then record { outcome = Ok 0; session = s; buffer = buffer }
    else if nat_lt 512 (length buffer) then fed (event_call s line buffer)
    else unmoved s buffer SmallBuffer

-- ---- lines

-- a script under way: whether a line stopped it, the session, the results so far, what they leave of the buffer, and the
-- bytes of the lines that were done
pub record Script : Type 0 where
  pub outcome : Result ⊤ Failure
  pub session : SessionView
  pub results : List ℕ
  pub rest : List ℕ
  pub done : ℕ

abbrev pub new_script : SessionView → List ℕ → Script
new_script s buffer = record { outcome = Ok tt; session = s; results = []; rest = buffer; done = 0 }

-- a line was done, or stopped the script: then the text of a refusal stands behind the results
abbrev pub after_call : Script → List ℕ → EventCall → Result ℕ Failure → Script
after_call p line c (Ok n) = record { outcome = Ok tt; session = c.session; results = p.results ++ take n c.buffer; rest = drop n c.buffer; done = p.done + length line }
after_call p line c (Err f) = record { outcome = Err f; session = c.session; results = p.results; rest = c.buffer; done = p.done }

abbrev pub goes_on : Script → List ℕ → Result ⊤ Failure → Script
goes_on p line (Ok _) = let c = line_call p.session (said line) p.rest in after_call p line c c.outcome
goes_on p line (Err f) = p

-- one line more, unless one before it stopped the script
abbrev pub after_line : Script → List ℕ → Script
after_line p line = goes_on p line p.outcome

abbrev pub script_call : SessionView → List ℕ → List ℕ → Script
script_call s text buffer = fold after_line (new_script s buffer) (lines_of text)

-- this is what the script leaves: the session, the buffer, the bytes of the lines that were done, and those of the results
pub record IsLeftBy (p : Script) (s : SessionView) (buffer : List ℕ) (done size : ℕ) : Type 0 where
  pub of_session : s ≡ p.session
  pub of_buffer : buffer ≡ p.results ++ p.rest
  pub of_done : done ≡ p.done
  pub of_size : size ≡ length p.results

-- there is nothing to refuse but memory for the event of a line
abbrev pub IsLineCall : SessionView → List ℕ → List ℕ → Type 0
IsLineCall s line buffer = (is_skipped line ≡ false) × (512 < length buffer) × IsEventCall s line buffer

-- memory is wanted for a line: all lines before it were done
pub record IsCutShort (s : SessionView) (text buffer : List ℕ) (s' : SessionView) (buffer' : List ℕ) (done size : ℕ) : Type 0 where
  pub before : List (List ℕ)
  pub line : List ℕ
  pub after : List (List ℕ)
  pub lines : lines_of text ≡ before ++ line ∷ after
  pub now : Script
  pub is : fold after_line (new_script s buffer) before ≡ now
  pub fine : now.outcome ≡ Ok tt
  pub left : IsLeftBy now s' buffer' done size
  pub wants : IsLineCall now.session (said line) now.rest
