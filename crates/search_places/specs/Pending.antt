-- Requests that were passed and haven't acted.
use Rattle.std.specs.Prelude.{ℕ, ◌≡◌, ◌<◌, ◌==◌, ◌&&◌, nat_lt, not, List, length, slice_get, Option, Some, None, Bool, true, false}
use Rattle.std.specs.List.{list_any}
use Rattle.tlp_core.specs.Operation.{is_posted}
use Rattle.log_runs.specs.EventView.{EventView}
use Rattle.log_runs.specs.EventView as events
use Rattle.log_runs.specs.LogView.{LogView}

-- the list has the number
abbrev pub has : List ℕ → ℕ → Bool
has xs c = list_any (λ x. x == c) xs

abbrev pub submits : Option EventView → Bool
submits (Some (events.Sub i op told)) = true
submits (Some (events.Due b)) = false
submits (Some events.Free) = false
submits None = false

-- the request has acted, if those of the list are the ones that were passed and haven't
abbrev pub is_done : LogView → ℕ → List ℕ → ℕ → Bool
is_done log event pending b = nat_lt b event && submits (slice_get log.events b) && not (has pending b)

-- which requests have acted, by their index in the log
pub record IsTable (log : LogView) (event : ℕ) (pending : List ℕ) (acted : List Bool) : Type 0 where
  pub len : length acted ≡ length log.events
  pub at : (b : ℕ) → b < length log.events → slice_get acted b ≡ Some (is_done log event pending b)

-- the event is a posted write
abbrev pub is_post : Option EventView → Bool
is_post (Some (events.Sub i op told)) = is_posted op
is_post (Some (events.Due b)) = false
is_post (Some events.Free) = false
is_post None = false

-- posts are those of the pending requests that are posted writes
abbrev pub ArePosts : LogView → List ℕ → List ℕ → Type 0
ArePosts log pending posts = (c : ℕ) → has posts c ≡ (has pending c && is_post (slice_get log.events c))

-- the event is a posted write of the requester
abbrev pub is_post_of : ℕ → Option EventView → Bool
is_post_of i (Some (events.Sub j op told)) = (i == j) && is_posted op
is_post_of i (Some (events.Due b)) = false
is_post_of i (Some events.Free) = false
is_post_of i None = false

-- request c is a posted write that the requester submitted before request b
abbrev pub blocks : LogView → ℕ → ℕ → ℕ → Bool
blocks log i b c = nat_lt c b && is_post_of i (slice_get log.events c)
