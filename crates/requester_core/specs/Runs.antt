-- Any list of calls on a new requester: the numbers that were given, and those that were answered.
use Rattle.std.specs.Prelude.{◌≡◌, ℕ, List, [], ◌∷◌, ◌++◌, Some, Result, Ok, Err, Contains}
use Rattle.tlp_core.specs.Ops.{Op}
use Rattle.tlp_core.specs.TlpView.{TlpView}
use Rattle.requester_core.specs.declared.requester.OpenRequest.{OpenRequest}
use Rattle.requester_core.specs.Answers.{Answer}
use Rattle.requester_core.specs.declared.fault.SubmitRefusal.{SubmitRefusal}
use Rattle.requester_core.specs.declared.fault.CompletionFault.{CompletionFault}
use Rattle.requester_core.specs.RequesterView.{RequesterView, open_at, prepared, after_opened, finished, after_finish}

-- a request is prepared and, unless it is refused, opened; or a packet arrives
pub data Call : Type 0 where
  Submits : Op → Call
  Arrives : TlpView → Call

abbrev pub submits : Result (ℕ × TlpView) SubmitRefusal → RequesterView → RequesterView
submits (Ok p) s = after_opened s p.1
submits (Err e) s = s

abbrev pub after_call : RequesterView → Call → RequesterView
after_call s (Submits op) = submits (prepared s op) s
after_call s (Arrives t) = after_finish s t

abbrev pub after_calls : RequesterView → List Call → RequesterView
after_calls s [] = s
after_calls s (call ∷ calls) = after_calls (after_call s call) calls

-- the number that a call gives
abbrev pub number_if : Result (ℕ × TlpView) SubmitRefusal → List ℕ
number_if (Ok p) = p.0 ∷ []
number_if (Err e) = []

abbrev pub given_by : RequesterView → Call → List ℕ
given_by s (Submits op) = number_if (prepared s op)
given_by s (Arrives t) = []

abbrev pub given_in : RequesterView → List Call → List ℕ
given_in s [] = []
given_in s (call ∷ calls) = given_by s call ++ given_in (after_call s call) calls

-- the number that a call answers
abbrev pub answer_if : Result Answer CompletionFault → List ℕ
answer_if (Ok a) = a.number ∷ []
answer_if (Err e) = []

abbrev pub answered_by : RequesterView → Call → List ℕ
answered_by s (Submits op) = []
answered_by s (Arrives t) = answer_if (finished s t)

abbrev pub answered_in : RequesterView → List Call → List ℕ
answered_in s [] = []
answered_in s (call ∷ calls) = answered_by s call ++ answered_in (after_call s call) calls

-- no number stands there twice
abbrev pub NoneTwice : List ℕ → Type 0
NoneTwice [] = Unit {0}
NoneTwice (n ∷ ns) = (Contains ns n → ⊥) × NoneTwice ns

-- a number that waits for its completion
pub record IsOpen (s : RequesterView) (number : ℕ) : Type 0 where
  pub tag : ℕ
  pub request : OpenRequest
  pub is : open_at s tag ≡ Some request
  pub same : request.number ≡ number
