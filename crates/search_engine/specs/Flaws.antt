-- Bookkeeping mistakes of a log, as `check` names them.
use Rattle.std.specs.Prelude.{ℕ, ◌≡◌, ◌++◌, ◌∷◌, [], if◌then◌else◌, List, slice_get, take, Some}
use Rattle.std.specs.List.{list_any}
use Rattle.history_words.specs.Records.{Record}
use Rattle.history_words.specs.declared.record.RecordOf.TheVariants as records
use Rattle.history_words.specs.declared.flaws.Flaw.{Flaw}
use Rattle.history_words.specs.declared.flaws.FlawKind.{FlawKind}
use Rattle.history_words.specs.declared.flaws.FlawKind.TheVariants as flaws
use Rattle.history_words.specs.Trace.{answers_to}
use Rattle.history_words.specs.TraceView.{TraceView}
use Rattle.flaw_places.specs.Places.{flaw_line}
use Rattle.log_events.specs.Formed.{MisformedAt, AreFormed}

-- what is wrong with a record behind those, if its form is: a submission hasn't its requester's next number; a request has a
-- second answer, or the answer is one to a posted write or to nothing
abbrev pub flaw_of : List Record → Record → FlawKind
flaw_of before (records.Sub i k op n) = flaws.Numbering
flaw_of before (records.Ans i k reply n) = if list_any (answers_to i k) before then flaws.Again else flaws.Unasked

-- it is that of the first record whose form is wrong
pub record IsFirstFlaw (rs : List Record) (f : Flaw) : Type 0 where
  pub first : AreFormed rs f.place
  pub wrong : MisformedAt rs f.place
  pub kind : (r : Record) → slice_get rs f.place ≡ Some r → f.kind ≡ flaw_of (take f.place rs) r

-- the text is the line of the log's first flaw
pub record IsFlawIn (t : TraceView) (text : List ℕ) (status : ℕ) : Type 0 where
  pub flaw : Flaw
  pub first : IsFirstFlaw t.records flaw
  pub says : text ≡ flaw_line flaw.kind flaw.place ++ 10 ∷ []
  pub tells : status ≡ 1
