-- What a search says of a log.
use Rattle.history_words.specs.TraceView.{TraceView}
use Rattle.history_words.specs.Claim.{Claim}
use Rattle.history_words.specs.Trace.{Explains}
use Rattle.history_words.specs.Clocks.{IsClocked, KeepsRealTimeOrder}
use Rattle.log_runs.specs.Explainable.{IsExplainable}
use Rattle.search_history.specs.Looks.{IsStopped}
use Rattle.search_history.specs.Prefixes.{IsUnexplained}
use Rattle.search_history.specs.declared.searching.Sought.{Sought}
use Rattle.search_history.specs.declared.searching.Sought.TheVariants as answers

-- where a history is found, it explains what was seen, whose n's are the lengths of it as it grew
abbrev pub IsFound : Claim → Sought → Type 0
IsFound x answers.Found = Explains x × IsClocked x
IsFound x (answers.None prefix) = Unit {0}
IsFound x (answers.Limit bound) = Unit {0}

-- its requests act in real-time order
abbrev pub IsInOrder : Claim → Sought → Type 0
IsInOrder x answers.Found = KeepsRealTimeOrder x
IsInOrder x (answers.None prefix) = Unit {0}
IsInOrder x (answers.Limit bound) = Unit {0}

-- where none is told, the log has none, nor has the prefix that is told
abbrev pub IsNone : TraceView → Sought → Type 0
IsNone t answers.Found = Unit {0}
IsNone t (answers.None prefix) = (IsExplainable t → ⊥) × IsUnexplained t prefix
IsNone t (answers.Limit bound) = Unit {0}

-- where a bound ended the search, it stood before the end of the log
abbrev pub Stops : TraceView → Sought → Type 0
Stops t answers.Found = Unit {0}
Stops t (answers.None prefix) = Unit {0}
Stops t (answers.Limit bound) = IsStopped t
