-- The buffer that a caller lends for an answer, and what a call returns.
use Rattle.std.specs.Prelude.{ℕ, ⊤, Bool, true, false, not, nat_lt, if◌then◌else◌, List, ◌++◌, length, take, drop, Result, Ok, Err}
use Rattle.c_buffer.specs.declared.outcome.Failure.{Failure}
use Rattle.c_buffer.specs.declared.outcome.Failure.TheVariants.{Text, SmallBuffer}

-- the answer stands at the front, and what is behind it stays
abbrev pub filled : List ℕ → List ℕ → List ℕ
filled buffer answer = answer ++ drop (length answer) buffer

-- what a call returns, and the buffer after it
pub record Told (T : Type 0) : Type 0 where
  pub outcome : Result T Failure
  pub buffer : List ℕ

-- the buffer stays as it was
abbrev pub untold : {T : Type 0} → List ℕ → Result T Failure → Told T
untold buffer outcome = record { outcome = outcome; buffer = buffer }

-- the answer stands in the buffer, and its length is returned
abbrev pub told : List ℕ → List ℕ → Told ℕ
told buffer answer = record { outcome = Ok (length answer); buffer = filled buffer answer }

-- the call fails, and the text of the fault stands in the buffer
abbrev pub told_fault : {T : Type 0} → List ℕ → List ℕ → Told T
told_fault buffer text = record { outcome = Err (Text (length text)); buffer = filled buffer text }

-- bytes of any length, in a buffer of at least as many
abbrev pub copied : List ℕ → List ℕ → Told ⊤
copied buffer bytes =
    if nat_lt (length buffer) (length bytes) then untold buffer (Err SmallBuffer)
    else record { outcome = Ok tt; buffer = filled buffer bytes }

-- the first of the bytes, as many as the buffer has
abbrev pub cut : List ℕ → List ℕ → List ℕ
cut buffer bytes = filled buffer (take (length buffer) bytes)

-- whether a failure has a text
abbrev pub has_text : Failure → Bool
has_text (Text _) = true
has_text _ = false

-- whether the call failed without a text
abbrev pub is_silent : {T : Type 0} → Result T Failure → Bool
is_silent (Ok _) = false
is_silent (Err f) = not (has_text f)
