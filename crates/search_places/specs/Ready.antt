-- Whether a request may act.
use Rattle.std.specs.Prelude.{ℕ, List, Option, Some, None, Bool, true, false, ◌&&◌, not, nat_lt, slice_get}
use Rattle.std.specs.List.{list_any}
use Rattle.tlp_core.specs.Ops.{Op}
use Rattle.seq_memory.specs.Entries.{Reply}
use Rattle.history_words.specs.Flaws.{same_reply}
use Rattle.log_runs.specs.EventView.{EventView}
use Rattle.log_runs.specs.EventView as events
use Rattle.log_runs.specs.LogView.{LogView}
use Rattle.log_runs.specs.Runs.{State, reply_of}
use Rattle.search_places.specs.Pending.{blocks}

-- it was answered with that reply, or not at all
abbrev pub is_told : Option Reply → Reply → Bool
is_told None made = true
is_told (Some reply) made = same_reply reply made

abbrev pub is_set : Option Bool → Bool
is_set None = false
is_set (Some x) = x

-- the requester's request, which was answered so or not at all, may act where posts are the posted writes that are pending
abbrev pub fits : LogView → State → List ℕ → ℕ → ℕ → Op → Option Reply → Bool
fits log s posts b i op told =
    nat_lt b s.event && not (is_set (slice_get s.acted b)) && is_told told (reply_of log.extent s.bytes op) && not (list_any (blocks log i b) posts)

-- the event is a submission of a request that may act
abbrev pub is_ready : LogView → State → List ℕ → ℕ → Option EventView → Bool
is_ready log s posts b (Some (events.Sub i op told)) = fits log s posts b i op told
is_ready log s posts b (Some (events.Due c)) = false
is_ready log s posts b (Some events.Free) = false
is_ready log s posts b None = false

-- request c is a posted write that the requester of the request at the event submitted before that, b, and hasn't acted
abbrev pub waits_for : LogView → State → ℕ → ℕ → Option EventView → Bool
waits_for log s b c (Some (events.Sub i op told)) = blocks log i b c && not (is_set (slice_get s.acted c))
waits_for log s b c (Some (events.Due d)) = false
waits_for log s b c (Some events.Free) = false
waits_for log s b c None = false

-- the memory answers what the request at the event was answered, if it was
abbrev pub suits : LogView → List ℕ → Option EventView → Bool
suits log m (Some (events.Sub i op told)) = is_told told (reply_of log.extent m op)
suits log m (Some (events.Due c)) = true
suits log m (Some events.Free) = true
suits log m None = true
