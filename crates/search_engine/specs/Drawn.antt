-- What `search` answers to a text where a picture is asked for.
use Rattle.std.specs.Prelude.{ℕ, ◌≡◌, ◌+◌, ◌^◌, ◌<◌, ◌⊎◌, List, [], ◌∷◌, ◌++◌, length, Option, None, Result, Ok, Err}
use Rattle.std.specs.Io.KnownBytes.{Appends, Consumes, IsAtEnd}
use Rattle.line_loop.specs.Run.{IsBeginning}
use Rattle.seq_memory.specs.Entries.{Entry}
use Rattle.history_words.specs.TraceView.{TraceView}
use Rattle.history_words.specs.Claim.{claim_of}
use Rattle.history_words.specs.Trace.{Explains}
use Rattle.history_words.specs.Clocks.{IsClocked}
use Rattle.history_picture.specs.declared.scale.Window.{Window}
use Rattle.history_picture.specs.Picture.{picture_text}
use Rattle.record_text.specs.declared.fault.ReadFault.{ReadFault}
use Rattle.record_text.specs.Names.{fault_line}
use Rattle.log_runs.specs.Explainable.{SeenAlike, prefix}
use Rattle.log_pieces.specs.declared.Granularity.{Granularity}
use Rattle.log_pieces.specs.InPieces.{in_pieces, IsExplainableIn}
use Rattle.log_events.specs.Formed.{AreFormed}
use Rattle.log_text.specs.LogReaderView.{seen_of}
use Rattle.search_run.specs.declared.exploring.Bounds.{Bounds}
use Rattle.search_reasons.specs.Lines.{lines_in}
use Rattle.search_picture.specs.declared.scene.Scene.{Scene}
use Rattle.search_picture.specs.Picture.{scene_text}
use Rattle.search_scene.specs.Scenes.{Shows}
use Rattle.search_engine.specs.Bounded.{IsGivenUp}
use Rattle.search_engine.specs.Flaws.{IsFlawIn}

-- no points are chosen: of a long history 60 are shown after the first
abbrev pub whole : Window
whole = record { from = 0; to = 18446744073709551615 }

-- the text is the picture of a trace and a history, as `draw` draws them: the trace is what was seen, with n's, and the
-- history explains it
pub record IsHistoryDrawn (t : TraceView) (text : List ℕ) (status : ℕ) : Type 0 where
  pub trace : TraceView
  pub history : List Entry
  pub alike : SeenAlike t trace
  pub explained : Explains (claim_of trace history)
  pub clocked : IsClocked (claim_of trace history)
  pub few : length history < 2 ^ 64
  pub says : text ≡ picture_text whole (claim_of trace history) None
  pub tells : status ≡ 0

-- the text is the picture of a scene that shows the log, the input's, up to the record at the place
abbrev pub IsLogDrawn : List ℕ → TraceView → ℕ → List ℕ → Type 0
IsLogDrawn input t place text = (scene : Scene) × Shows t place (lines_in input) scene × (text ≡ scene_text scene)

-- such a picture, where with pieces of that size no history explains the records up to that one
pub record IsNoneDrawn (size : Granularity) (input : List ℕ) (t : TraceView) (text : List ℕ) (status : ℕ) : Type 0 where
  pub place : ℕ
  pub within : place < length t.records
  pub unexplained : IsExplainableIn size (prefix (place + 1) t) → ⊥
  pub says : IsLogDrawn input t place text
  pub tells : status ≡ 1

-- what a search says of a log, and the exit status
abbrev pub IsJudgmentDrawn : Granularity → Bounds → List ℕ → TraceView → List ℕ → ℕ → Type 0
IsJudgmentDrawn size bounds input t text status =
    IsHistoryDrawn (in_pieces size t) text status ⊎ IsNoneDrawn size input t text status ⊎ IsGivenUp size bounds t text status

-- an answer to a text of which that was read: to a log whose form is wrong, and to what can't be read, as ever
abbrev pub IsAnswerDrawn : Granularity → Bounds → List ℕ → Result TraceView ReadFault → List ℕ → ℕ → Type 0
IsAnswerDrawn size bounds input (Ok t) text status =
    IsFlawIn t text status ⊎ (AreFormed t.records (length t.records) × IsJudgmentDrawn size bounds input t text status)
IsAnswerDrawn size bounds input (Err f) text status = (text ≡ fault_line f ++ 10 ∷ []) × (status ≡ 1)

abbrev pub OutSearchDrawn : Granularity → Bounds → List ℕ → List ℕ → ℕ → Type 0
OutSearchDrawn size bounds input text status = IsAnswerDrawn size bounds input (seen_of input) text status

-- the input was read to its end, and an answer to it was written
pub record IsWholeDrawn (size : Granularity) (bounds : Bounds) (input rest out out' : Option (List ℕ)) (status : ℕ) : Type 0 where
  pub read : List ℕ
  pub consumed : Consumes input rest read
  pub at_end : IsAtEnd rest
  pub text : List ℕ
  pub answers : OutSearchDrawn size bounds read text status
  pub written : Appends out out' text

-- a first part of an answer to the whole input
pub record BeginsDrawn (size : Granularity) (bounds : Bounds) (read : List ℕ) (rest : Option (List ℕ)) (done : List ℕ) : Type 0 where
  pub at_end : IsAtEnd rest
  pub text : List ℕ
  pub status : ℕ
  pub answers : OutSearchDrawn size bounds read text status
  pub begins : IsBeginning done text

-- nothing was written, or a first part of an answer to the whole input
pub record IsPartDrawn (size : Granularity) (bounds : Bounds) (input rest out out' : Option (List ℕ)) : Type 0 where
  pub read : List ℕ
  pub consumed : Consumes input rest read
  pub done : List ℕ
  pub begins : (done ≡ []) ⊎ BeginsDrawn size bounds read rest done
  pub written : Appends out out' done
