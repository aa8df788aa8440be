-- What is answered where a bound ended the search.
use Rattle.std.specs.Prelude.{ℕ, ◌≡◌, ◌≢◌, ◌<◌, List, [], ◌∷◌, ◌++◌, codes, Option, Some, None}
use Rattle.std.specs.Fmt.{decimal}
use Rattle.history_words.specs.TraceView.{TraceView}
use Rattle.log_pieces.specs.declared.Granularity.{Granularity}
use Rattle.log_pieces.specs.InPieces.{in_pieces}
use Rattle.search_run.specs.declared.exploring.Bound.{Bound}
use Rattle.search_run.specs.declared.exploring.Bound.TheVariants as ends
use Rattle.search_run.specs.declared.exploring.Bounds.{Bounds}
use Rattle.search_history.specs.Looks.{AreLooks, IsStopped}
use Rattle.search_engine.specs.declared.ending.Ending.{Ending}
use Rattle.search_engine.specs.declared.options.SearchDemand.{SearchDemand}

-- what a search may do
abbrev pub bounds_of : SearchDemand → Bounds
bounds_of demand = record { choices = demand.options.limit; work = demand.work }

-- so many choices and so much work
abbrev pub within : ℕ → ℕ → Bounds
within limit work = record { choices = limit; work = work }

-- the same where only the choices are bounded
abbrev pub by_choices : ℕ → Bounds
by_choices limit = within limit 18446744073709551615

-- after so many choices, and with so much work left, that bound ended the search: as many were allowed, or it had a bound of
-- work that came first and was used up
abbrev pub IsEnded : Bounds → ℕ → ℕ → Bound → Type 0
IsEnded bounds choices left ends.Choices = choices ≡ bounds.choices
IsEnded bounds choices left ends.Work = (choices < bounds.choices) × (bounds.work < 18446744073709551615) × (left ≡ 0)

-- so many choices were looked at, each at a state to which a run from the start of the log, or of a part of it, leads; and the
-- search stood before the end of the log, whose form is right
pub record WasSearched (t : TraceView) (choices : ℕ) : Type 0 where
  pub looked : AreLooks t choices
  pub stopped : IsStopped t

abbrev pub limit_line : ℕ → List ℕ
limit_line limit = codes "limit " ++ decimal limit

abbrev pub work_line : ℕ → List ℕ
work_line work = codes "work " ++ decimal work

abbrev pub bound_line : Bounds → Bound → List ℕ
bound_line bounds ends.Choices = limit_line bounds.choices
bound_line bounds ends.Work = work_line bounds.work

-- the text is the bound that ended the search: nothing is known
pub record IsEndedBy (bounds : Bounds) (ending : Ending) (text : List ℕ) (status : ℕ) : Type 0 where
  pub ended : IsEnded bounds ending.choices ending.work ending.bound
  pub says : text ≡ bound_line bounds ending.bound ++ 10 ∷ []
  pub tells : status ≡ 3

-- a bound ended the search of the log in pieces of that size
pub record IsGivenUp (size : Granularity) (bounds : Bounds) (t : TraceView) (text : List ℕ) (status : ℕ) : Type 0 where
  pub ending : Ending
  pub by : IsEndedBy bounds ending text status
  pub searched : WasSearched (in_pieces size t) ending.choices

-- where status 3 says that a bound ended the search, it is told which one did
abbrev pub TellsEnding : Bounds → Option Ending → List ℕ → ℕ → Type 0
TellsEnding bounds (Some ending) text status = IsEndedBy bounds ending text status
TellsEnding bounds None text status = status ≢ 3
