-- Requesters of which a log has no record.
use Rattle.std.specs.Prelude.{ℕ, ◌≡◌, List, All}
use Rattle.history_words.specs.Records.{Record}
use Rattle.history_words.specs.declared.record.RecordOf.TheVariants as records
use Rattle.log_faults.specs.declared.faults.FaultKind.{FaultKind}
use Rattle.log_faults.specs.declared.faults.FaultKind.TheVariants as kinds

-- whose it is
abbrev pub requester_of : Record → ℕ
requester_of (records.Sub i k op n) = i
requester_of (records.Ans i k reply n) = i

-- no record is of the requester
abbrev pub IsFree : ℕ → List Record → Type 0
IsFree by rs = All (λ r. requester_of r ≡ by → ⊥) rs

-- if a request is some requester's own, no record is of that one
abbrev pub IsNew : FaultKind → List Record → Type 0
IsNew (kinds.Twice by) rs = IsFree by rs
IsNew (kinds.Apart by) rs = IsFree by rs
IsNew (kinds.Early by m) rs = IsFree by rs
IsNew (kinds.Refused by) rs = IsFree by rs
IsNew _ rs = Unit {0}
