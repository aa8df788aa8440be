-- What `run` writes.
use Rattle.std.specs.Prelude.{◌≡◌, ◌⊎◌, ◌%◌, ◌^◌, ℕ, Bool, true, false, nat_lt, if◌then◌else◌, List, [], ◌∷◌, ◌++◌, length, take, count_by, codes, Option}
use Rattle.std.specs.Fmt.{decimal}
use Rattle.std.specs.Io.KnownBytes.{Appends}
use Rattle.byteorder.specs.Endian.{little_number}
use Rattle.line_loop.specs.Run.{IsBeginning}
use Rattle.seq_memory.specs.History.{bytes_of}
use Rattle.history_words.specs.Records.{Record}
use Rattle.history_words.specs.declared.record.RecordOf.TheVariants as records
use Rattle.history_words.specs.TraceView.{TraceView}
use Rattle.history_words.specs.Claim.{claim_of}
use Rattle.history_words.specs.Trace.{Explains}
use Rattle.fabric_steps.specs.Fabric.{Fabric}
use Rattle.hall_laws.specs.Rule.{HasConfig}
use Rattle.worker_report.specs.declared.halt.RunHalt.{RunHalt}
use Rattle.worker_report.specs.declared.halt.RunHalt.TheVariants as halts
use Rattle.worker_report.specs.Halts.{halt_name, IsOfMemory, IsEndBy}
use Rattle.workers.specs.Running.{AreDone}
use Rattle.parameters.specs.declared.counting.Counting.{Counting}
use Rattle.run_engine.specs.Counting.{scripts_of, config_of}

-- a line with a name and a number
abbrev pub number_line : List ℕ → ℕ → List ℕ
number_line name n = name ++ (decimal n ++ 10 ∷ [])

abbrev pub is_answer : Record → Bool
is_answer (records.Sub i k op n) = false
is_answer (records.Ans i k reply n) = true

-- how many answers there are
abbrev pub answers_in : List Record → ℕ
answers_in rs = count_by is_answer rs

-- the first four bytes as a number
abbrev pub first_word : List ℕ → ℕ
first_word bytes = if nat_lt (length bytes) 4 then 0 else little_number 4 (take 4 bytes)

abbrev pub report_text : List Record → Fabric → List ℕ
report_text rs f =
    number_line (codes "answered ") (answers_in rs)
    ++ (number_line (codes "history ") (length f.memory.entries) ++ (number_line (codes "word ") (first_word (bytes_of f.memory)) ++ codes "check ok\n"))

-- the text of so many additions, each counted once
abbrev pub counted_text : ℕ → List ℕ
counted_text n =
    number_line (codes "answered ") n ++ (number_line (codes "history ") n ++ (number_line (codes "word ") (n % 2 ^ 32) ++ codes "check ok\n"))

abbrev pub halt_text : RunHalt → List ℕ
halt_text h = codes "halt " ++ (halt_name h ++ 10 ∷ [])

abbrev pub halt_status : RunHalt → ℕ
halt_status halts.Turns = 3
halt_status _ = 1

-- the text of a report whose history explains its trace, in which each requester submitted its additions and has an
-- answer to each, and no record is of anyone else
pub record IsReport (c : Counting) (text : List ℕ) : Type 0 where
  pub trace : TraceView
  pub fabric : Fabric
  pub explained : Explains (claim_of trace fabric.memory.entries)
  pub done : AreDone trace.records 1 (scripts_of c.requesters c.each)
  pub memory : IsOfMemory (config_of c.requesters) trace
  pub config : HasConfig fabric (config_of c.requesters)
  pub says : text ≡ report_text trace.records fabric

-- the text of a halt for its cause: never of a flaw, nor of what is missing
pub record IsHalt (text : List ℕ) (status : ℕ) : Type 0 where
  pub halt : RunHalt
  pub cause : IsEndBy halt
  pub says : text ≡ halt_text halt
  pub tells : status ≡ halt_status halt

-- the text and the exit status of a run
abbrev pub IsOutput : Counting → List ℕ → ℕ → Type 0
IsOutput c text status = (IsReport c text × (status ≡ 0)) ⊎ IsHalt text status

-- the whole output was written
pub record IsWhole (c : Counting) (out out' : Option (List ℕ)) (status : ℕ) : Type 0 where
  pub text : List ℕ
  pub output : IsOutput c text status
  pub written : Appends out out' text

-- a prefix of it was written
pub record IsPart (c : Counting) (out out' : Option (List ℕ)) : Type 0 where
  pub text : List ℕ
  pub status : ℕ
  pub output : IsOutput c text status
  pub done : List ℕ
  pub begins : IsBeginning done text
  pub written : Appends out out' done

-- the whole output was written, and the exit status is the run's; or a prefix of it, and the exit status is 1
abbrev pub IsRan : Counting → Option (List ℕ) → Option (List ℕ) → ℕ → Type 0
IsRan c out out' exit = IsWhole c out out' exit ⊎ ((exit ≡ 1) × IsPart c out out')
