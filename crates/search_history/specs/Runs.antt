-- Runs through the records of a trace, and what is owed for one.
use Rattle.std.specs.Prelude.{◌≡◌, List}
use Rattle.history_words.specs.TraceView.{TraceView, observed}
use Rattle.log_runs.specs.EventView.{EventView}
use Rattle.log_runs.specs.declared.Step.{Step}
use Rattle.log_runs.specs.Tasks.{AreAllEvents, IsWellFormed}
use Rattle.search_run.specs.Outcomes.{IsRun}
use Rattle.search_run.specs.declared.exploring.Outcome.{Outcome}
use Rattle.search_run.specs.declared.exploring.Outcome.TheVariants as outcomes
use Rattle.search_history.specs.Looks.{IsStopped}
use Rattle.search_history.specs.declared.searching.Sought.{Sought}
use Rattle.search_history.specs.declared.searching.Sought.TheVariants as answers
use Rattle.search_history.specs.declared.searching.Verdict.{Verdict}
use Rattle.search_history.specs.declared.searching.Verdict.TheVariants as verdicts

-- the form of the records is right, and the steps lead through all their events to the end
pub record IsRunOf (t : TraceView) (xs : List Step) : Type 0 where
  pub formed : IsWellFormed t.records
  pub events : List EventView
  pub all : AreAllEvents t.records events
  pub run : IsRun (record { extent = observed t; events = events }) xs

-- a run that is told is one of the trace, and a bound ends a search before the end
abbrev pub IsOutcomeOf : TraceView → Outcome → Type 0
IsOutcomeOf t (outcomes.Run xs) = IsRunOf t xs.items
IsOutcomeOf t outcomes.Dead = Unit {0}
IsOutcomeOf t (outcomes.Limit bound) = IsStopped t

abbrev pub IsVerdictOf : TraceView → Verdict → Type 0
IsVerdictOf t (verdicts.Run xs) = IsRunOf t xs.items
IsVerdictOf t (verdicts.None n) = Unit {0}
IsVerdictOf t (verdicts.Limit bound) = IsStopped t

-- a run is answered by a history, and nothing else is; what bound ended it is told
abbrev pub IsAnswered : Verdict → Sought → Type 0
IsAnswered (verdicts.Run xs) answers.Found = Unit {0}
IsAnswered (verdicts.None n) (answers.None prefix) = n ≡ prefix
IsAnswered (verdicts.Limit bound) (answers.Limit other) = bound ≡ other
IsAnswered _ _ = ⊥
