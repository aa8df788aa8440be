-- What `search` answers to a text.
use Rattle.std.specs.Prelude.{ℕ, ◌≡◌, ◌+◌, ◌^◌, ◌<◌, ◌≤◌, ◌⊎◌, Bool, true, false, List, [], ◌∷◌, ◌++◌, length, codes, Option, Result, Ok, Err}
use Rattle.std.specs.Fmt.{decimal}
use Rattle.std.specs.Io.KnownBytes.{Appends, Consumes, IsAtEnd}
use Rattle.line_loop.specs.Run.{IsBeginning}
use Rattle.seq_memory.specs.Entries.{Entry}
use Rattle.history_words.specs.TraceView.{TraceView}
use Rattle.history_words.specs.Claim.{claim_of}
use Rattle.history_words.specs.Trace.{Explains}
use Rattle.history_words.specs.Clocks.{IsClocked}
use Rattle.record_text.specs.declared.fault.ReadFault.{ReadFault}
use Rattle.trace_text.specs.Texts.{trace_text}
use Rattle.record_text.specs.Names.{fault_line}
use Rattle.log_runs.specs.Explainable.{SeenAlike, IsExplainable, prefix}
use Rattle.log_pieces.specs.declared.Granularity.{Granularity}
use Rattle.log_pieces.specs.declared.Granularity.TheVariants.{Whole}
use Rattle.log_pieces.specs.InPieces.{in_pieces, IsExplainableIn}
use Rattle.log_events.specs.Formed.{AreFormed}
use Rattle.log_text.specs.LogReaderView.{seen_of}
use Rattle.log_text.specs.LogReaderView as logs
use Rattle.trace_text.specs.TraceReaderView as traces
use Rattle.search_run.specs.declared.exploring.Bounds.{Bounds}
use Rattle.search_engine.specs.Bounded.{by_choices, IsGivenUp}
use Rattle.search_engine.specs.Flaws.{IsFlawIn}

abbrev pub none_line : ℕ → List ℕ
none_line place = codes "none " ++ decimal place

-- the text is that of a trace and a history: the trace is what was seen, with n's, and the history explains it
pub record IsFoundIn (t : TraceView) (text : List ℕ) (status : ℕ) : Type 0 where
  pub trace : TraceView
  pub history : List Entry
  pub alike : SeenAlike t trace
  pub explained : Explains (claim_of trace history)
  pub clocked : IsClocked (claim_of trace history)
  pub few : length history < 2 ^ 64
  pub says : text ≡ trace_text (claim_of trace history)
  pub tells : status ≡ 0

-- the text is `none` and the place of a record: with pieces of that size no history explains the records up to it
pub record IsNoneIn (size : Granularity) (t : TraceView) (text : List ℕ) (status : ℕ) : Type 0 where
  pub place : ℕ
  pub within : place < length t.records
  pub unexplained : IsExplainableIn size (prefix (place + 1) t) → ⊥
  pub says : text ≡ none_line place ++ 10 ∷ []
  pub tells : status ≡ 1

-- the text is one of a log, or a trace, that no history explains
pub record IsUnexplainedText (text : List ℕ) : Type 0 where
  pub log : TraceView
  pub reads : seen_of text ≡ Ok log
  pub unexplained : IsExplainable log → ⊥

-- where it is asked for, the text is one of a log that no history explains, in place of `none`: nor does any, with pieces of
-- that size, the first records of what was read
pub record IsCoreIn (core : Bool) (size : Granularity) (t : TraceView) (text : List ℕ) (status : ℕ) : Type 0 where
  pub asked : core ≡ true
  pub count : ℕ
  pub within : count ≤ length t.records
  pub unexplained : IsExplainableIn size (prefix count t) → ⊥
  pub says : IsUnexplainedText text
  pub tells : status ≡ 1

-- what a search says of a log, and the exit status; what is found is a history of the log in pieces of that size. `core` says
-- whether a log of few answers is asked for
abbrev pub IsJudgmentOf : Bool → Granularity → Bounds → TraceView → List ℕ → ℕ → Type 0
IsJudgmentOf core size bounds t text status =
    IsFoundIn (in_pieces size t) text status ⊎ IsNoneIn size t text status ⊎ IsGivenUp size bounds t text status ⊎ IsCoreIn core size t text status

-- an answer to what was read, and its exit status: the first flaw of a log whose form is wrong, and what a search says of
-- any other
abbrev pub IsAnswerTo : Bool → Granularity → Bounds → Result TraceView ReadFault → List ℕ → ℕ → Type 0
IsAnswerTo core size bounds (Ok t) text status =
    IsFlawIn t text status ⊎ (AreFormed t.records (length t.records) × IsJudgmentOf core size bounds t text status)
IsAnswerTo core size bounds (Err f) text status = (text ≡ fault_line f ++ 10 ∷ []) × (status ≡ 1)

-- the answer to a text, and its exit status; a text may have many
abbrev pub OutSearchFor : Bool → Granularity → Bounds → List ℕ → List ℕ → ℕ → Type 0
OutSearchFor core size bounds input text status = IsAnswerTo core size bounds (seen_of input) text status

-- the input was read to its end, and an answer to it was written
pub record IsWholeFor (core : Bool) (size : Granularity) (bounds : Bounds) (input rest out out' : Option (List ℕ)) (status : ℕ) : Type 0 where
  pub read : List ℕ
  pub consumed : Consumes input rest read
  pub at_end : IsAtEnd rest
  pub text : List ℕ
  pub answers : OutSearchFor core size bounds read text status
  pub written : Appends out out' text

-- a first part of an answer to the whole input
pub record BeginsAnswerFor (core : Bool) (size : Granularity) (bounds : Bounds) (read : List ℕ) (rest : Option (List ℕ)) (done : List ℕ) : Type 0 where
  pub at_end : IsAtEnd rest
  pub text : List ℕ
  pub status : ℕ
  pub answers : OutSearchFor core size bounds read text status
  pub begins : IsBeginning done text

-- nothing was written, or a first part of an answer to the whole input
pub record IsPartFor (core : Bool) (size : Granularity) (bounds : Bounds) (input rest out out' : Option (List ℕ)) : Type 0 where
  pub read : List ℕ
  pub consumed : Consumes input rest read
  pub done : List ℕ
  pub begins : (done ≡ []) ⊎ BeginsAnswerFor core size bounds read rest done
  pub written : Appends out out' done

-- the answer was written, with its exit status; or part of one, with status 1
abbrev pub IsSearchedFor : Bool → Granularity → Bounds → Option (List ℕ) → Option (List ℕ) → Option (List ℕ) → Option (List ℕ) → ℕ → Type 0
IsSearchedFor core size bounds input rest out out' status = IsWholeFor core size bounds input rest out out' status ⊎ ((status ≡ 1) × IsPartFor core size bounds input rest out out')

-- the same where no log of few answers is asked for, and only the choices are bounded
abbrev pub IsWholeWith : Granularity → ℕ → Option (List ℕ) → Option (List ℕ) → Option (List ℕ) → Option (List ℕ) → ℕ → Type 0
IsWholeWith size limit = IsWholeFor false size (by_choices limit)

abbrev pub IsPartWith : Granularity → ℕ → Option (List ℕ) → Option (List ℕ) → Option (List ℕ) → Option (List ℕ) → Type 0
IsPartWith size limit = IsPartFor false size (by_choices limit)

abbrev pub IsSearchedWith : Granularity → ℕ → Option (List ℕ) → Option (List ℕ) → Option (List ℕ) → Option (List ℕ) → ℕ → Type 0
IsSearchedWith size limit = IsSearchedFor false size (by_choices limit)

-- the same of requests that act as a whole
abbrev pub IsWhole : ℕ → Option (List ℕ) → Option (List ℕ) → Option (List ℕ) → Option (List ℕ) → ℕ → Type 0
IsWhole limit = IsWholeWith Whole limit

abbrev pub IsPart : ℕ → Option (List ℕ) → Option (List ℕ) → Option (List ℕ) → Option (List ℕ) → Type 0
IsPart limit = IsPartWith Whole limit

abbrev pub IsSearched : ℕ → Option (List ℕ) → Option (List ℕ) → Option (List ℕ) → Option (List ℕ) → ℕ → Type 0
IsSearched limit = IsSearchedWith Whole limit

-- memory is wanted for a record or an entry, before which the text has no fault; or to search for a history of what was
-- read
abbrev pub WantsMemory : List ℕ → Type 0
WantsMemory text = ((f : ReadFault) × (logs.IsRefused text f ⊎ traces.IsRefused text f)) ⊎ ((t : TraceView) × (seen_of text ≡ Ok t))
