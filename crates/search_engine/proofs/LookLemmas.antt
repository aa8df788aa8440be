-- What was looked at, and what is answered where a bound ended the search.
use Rattle.std.proofs.Common.{◌≡◌, ◌<◌, ◌++◌, ℕ, zero, suc, Bool, List, [], ◌∷◌, length, refl, ap, inl, inr, subst, sym, arith, ◌∙◌, Option, Some, Result, Ok, Err}
use Rattle.std.specs.Prelude.{slice_get}
use Rattle.history_words.specs.Records.{Record}
use Rattle.history_words.specs.TraceView.{TraceView, observed}
use Rattle.record_text.specs.declared.fault.ReadFault.{ReadFault}
use Rattle.log_events.specs.Formed.{AreFormed}
use Rattle.log_pieces.specs.declared.Granularity.{Granularity}
use Rattle.log_pieces.specs.declared.Granularity.TheVariants as sizes
use Rattle.log_pieces.specs.declared.Granularity.TheVariants.{Whole}
use Rattle.log_pieces.specs.InPieces.{in_pieces}
use Rattle.log_runs.specs.LogView.{LogView}
use Rattle.log_runs.specs.EventView.{EventView}
use Rattle.log_runs.specs.declared.Step.{Step}
use Rattle.log_runs.specs.declared.Step.TheVariants as steps
use Rattle.log_runs.specs.Runs.{State, Leads, MayPass, start}
use Rattle.search_run.specs.declared.exploring.Bound.{Bound}
use Rattle.search_run.specs.declared.exploring.Bound.TheVariants as ends
use Rattle.search_run.specs.declared.exploring.Bounds.{Bounds}
use Rattle.search_run.specs.Watched.{Saw}
use Rattle.search_history.specs.Looks.{AreLooks, IsPartOf, IsStopped, Look, SawOf}
use Rattle.search_history.specs.declared.searching.Sought.{Sought}
use Rattle.search_history.specs.declared.searching.Sought.TheVariants as answers
use Rattle.search_run.specs.declared.watching.Spot.{Spot}
use Rattle.search_engine.specs.declared.granularity.Pieces.{Pieces}
use Rattle.search_engine.specs.Bounded.{bound_line, IsEnded, IsEndedBy, IsGivenUp, WasSearched}
use Rattle.search_engine.specs.Drawn.{IsAnswerDrawn}
use Rattle.search_engine.specs.Findings.{IsFinding, IsFindingOf}
use Rattle.search_engine.specs.Search.{IsAnswerTo}
use Rattle.search_engine.specs.declared.answering.Finding.{Finding}
use Rattle.search_engine.specs.declared.answering.Finding.TheVariants as findings
use Rattle.search_engine.specs.declared.ending.Ending.{Ending}
use Rattle.search_engine.proofs.SizeLemmas.{whole_is}

looks : {A : Type 0} (sees : LogView → State → A → A → Type 0) (log : LogView) (n : ℕ) (x y : A) → Saw sees (IsPartOf log) n x y
    → (xs : List (Look log)) × (length xs ≡ n)
looks sees log zero x y saw = ([], refl)
looks sees log (suc n) x y saw =
    let (xs, many) = looks sees log n x saw.0 saw.1 in
    let one = saw.2 in
    (record { part = one.log; of = one.of; place = one.place; reached = one.reached } ∷ xs, ap suc many)

-- what a watch saw was looked at
pub looked : {A : Type 0} (sees : LogView → State → A → A → Type 0) (t u : TraceView) (n : ℕ) (x y : A) → t ≡ u → SawOf sees t n x y → IsStopped t → WasSearched (in_pieces Whole u) n
looked sees t u n x y same saw stopped =
    let (xs, many) = looks sees saw.log n x y saw.saw in
    let are : AreLooks t n = record { log = saw.log; count = saw.count; of = saw.of; looks = xs; as_many = many } in
    subst (λ (v : TraceView). WasSearched v n) (sym (whole_is u)) (subst (λ (v : TraceView). WasSearched v n) same (record { looked = are; stopped = stopped }))

-- which bound ended it
pub ended : (bounds : Bounds) (choices left : ℕ) (s : Sought) (b : Bound) → s ≡ answers.Limit b → (s ≡ answers.Limit ends.Choices → choices ≡ bounds.choices)
    → (s ≡ answers.Limit ends.Work → choices < bounds.choices) → (s ≡ answers.Limit ends.Work → bounds.work < 18446744073709551615)
    → (s ≡ answers.Limit ends.Work → left ≡ 0) → IsEnded bounds choices left b
ended bounds choices left s ends.Choices is limit less work spent = limit is
ended bounds choices left s ends.Work is limit less work spent = (less is, work is, spent is)

pub given_up : (size : Granularity) (bounds : Bounds) (t : TraceView) (ending : Ending) (text : List ℕ) (status : ℕ) → IsEndedBy bounds ending text status
    → WasSearched (in_pieces size t) ending.choices → IsGivenUp size bounds t text status
given_up size bounds t ending text status by searched = record { ending = ending; by = by; searched = searched }

-- so it is answered
pub limit_answers : (core : Bool) (size : Granularity) (bounds : Bounds) (r : Result TraceView ReadFault) (seen : TraceView) (ending : Ending) (far : Option Spot) (pieces : Option Pieces) (text : List ℕ) (status : ℕ)
    → IsFinding size bounds r (findings.Limit seen ending far pieces) → text ≡ bound_line bounds ending.bound ++ 10 ∷ [] → status ≡ 3 → IsAnswerTo core size bounds r text status
limit_answers core size bounds (Ok t) seen ending far pieces text status h says tells =
    inr (h.0, inr (inr (inl (given_up size bounds t ending text status (record { ended = h.1.0; says = says; tells = tells }) h.1.1))))
limit_answers core size bounds (Err f) seen ending far pieces text status h says tells = absurd h

pub limit_is_drawn : (size : Granularity) (bounds : Bounds) (input : List ℕ) (r : Result TraceView ReadFault) (seen : TraceView) (ending : Ending) (far : Option Spot) (pieces : Option Pieces) (text : List ℕ) (status : ℕ)
    → IsFinding size bounds r (findings.Limit seen ending far pieces) → text ≡ bound_line bounds ending.bound ++ 10 ∷ [] → status ≡ 3 → IsAnswerDrawn size bounds input r text status
limit_is_drawn size bounds input (Ok t) seen ending far pieces text status h says tells =
    inr (h.0, inr (inr (given_up size bounds t ending text status (record { ended = h.1.0; says = says; tells = tells }) h.1.1)))
limit_is_drawn size bounds input (Err f) seen ending far pieces text status h says tells = absurd h

-- ---- without records nothing is to be looked at

in_no_pieces : (size : Granularity) (t : TraceView) → t.records ≡ [] → (in_pieces size t).records ≡ []
unfolding in_pieces
in_no_pieces sizes.Four t none = rw none refl
in_no_pieces sizes.Eight t none = rw none refl
in_no_pieces sizes.Sixteen t none = rw none refl
in_no_pieces sizes.SixtyFour t none = rw none refl
in_no_pieces sizes.Whole t none = none

nothing_there : {X : Type 0} (xs : List X) (i : ℕ) (x : X) → xs ≡ [] → slice_get xs i ≡ Some x → ⊥
nothing_there [] i x none at = cc
nothing_there (y ∷ xs) i x none at = cc

none_reached : (log : LogView) (s : State) (xs : List Step) → log.events ≡ [] → Leads log (start log) xs s → (s.event ≡ length log.events → ⊥) → ⊥
none_reached log s [] none leads more = more (sym (ap (λ (u : State). u.event) leads) ∙ sym (ap length none))
none_reached log s (steps.Pass ∷ xs) none leads more = subst (λ (es : List EventView). MayPass (start log) (slice_get es 0)) none leads.0
none_reached log s (steps.Act b ∷ xs) none leads more = nothing_there log.events b _ none leads.0.submitted

no_events : (rs : List Record) (es : List EventView) → rs ≡ [] → length es ≡ length rs → es ≡ []
no_events rs [] none len = refl
no_events rs (e ∷ es) none len = absurd (let l : length (e ∷ es) ≡ 0 = len ∙ ap length none in omega (arith, l))

pub not_without_records : (size : Granularity) (t : TraceView) (n : ℕ) → WasSearched (in_pieces size t) n → t.records ≡ [] → ⊥
not_without_records size t n searched none =
    let stopped = searched.stopped in
    let events = no_events (in_pieces size t).records stopped.events (in_no_pieces size t none) stopped.all.right.len in
    let at = stopped.stands.1 in
    none_reached (record { extent = observed (in_pieces size t); events = stopped.events }) stopped.stands.0 at.steps events at.leads at.more
