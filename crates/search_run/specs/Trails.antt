-- Steps that were taken, as a trail keeps them: a mark for each, the requests that acted, and the bytes that they overwrote.
use Rattle.std.specs.Prelude.{ℕ, ◌≡◌, ◌+◌, ◌≤◌, ◌==◌, List, [], ◌∷◌, length, take, drop, slice_index, Bool, true, false}
use Rattle.tlp_core.specs.Limits.{max_payload}
use Rattle.std.specs.List.{All}
use Rattle.log_runs.specs.declared.Step.{Step}
use Rattle.log_runs.specs.declared.Step.TheVariants as steps
use Rattle.search_places.specs.declared.steps.Done.{Done}

-- the mark of an event that was passed; any other says how many bytes an act overwrote
abbrev pub is_pass : ℕ → Bool
is_pass m = m == 255

abbrev pub acts_by : Bool → ℕ
acts_by true = 0
acts_by false = 1

abbrev pub size_by : Bool → ℕ → ℕ
size_by true m = 0
size_by false m = m

abbrev pub done_by : Bool → ℕ → List ℕ → Done
done_by true b bytes = record { step = steps.Pass; old = record { items = [] } }
done_by false b bytes = record { step = steps.Act b; old = record { items = bytes } }

-- how many of the steps are acts, and how many bytes they overwrote
abbrev pub acts_of : List ℕ → ℕ
acts_of [] = 0
acts_of (m ∷ ms) = acts_by (is_pass m) + acts_of ms

abbrev pub bytes_in : List ℕ → ℕ
bytes_in [] = 0
bytes_in (m ∷ ms) = size_by (is_pass m) m + bytes_in ms

-- the steps
abbrev pub trail_of : List ℕ → List ℕ → List ℕ → List Done
trail_of [] bs old = []
trail_of (m ∷ ms) bs old =
    done_by (is_pass m) (slice_index bs 0) (take (size_by (is_pass m) m) old)
    ∷ trail_of ms (drop (acts_by (is_pass m)) bs) (drop (size_by (is_pass m) m) old)

-- the requests and the bytes are as many as the marks say
pub record IsTrail (ms bs old : List ℕ) : Type 0 where
  pub acts : length bs ≡ acts_of ms
  pub bytes : length old ≡ bytes_in ms
  pub few : All (λ m. size_by (is_pass m) m ≤ max_payload) ms

-- the steps alone
abbrev pub steps_by : List Done → List Step
steps_by [] = []
steps_by (d ∷ ds) = d.step ∷ steps_by ds
