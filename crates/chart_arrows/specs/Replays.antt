-- What a sender sends once more.
use Rattle.std.specs.Prelude.{ℕ, ◌-◌, ◌==◌, Bool, true, false, not, ◌&&◌, if◌then◌else◌}
use Rattle.seq12.specs.Numbers.{distance_of}
use Rattle.link_replay.specs.SenderView.{SenderView}
use Rattle.chart_rows.specs.declared.row.Replay.{Replay}
use Rattle.chart_rows.specs.declared.row.Replay.TheVariants as replays

-- how many packets a sender sends once more that became the other: it had sent them, they aren't acknowledged now, and it
-- has moved back to before them
abbrev pub places_back : SenderView → SenderView → ℕ
places_back s s' = (s.place - distance_of s'.acked s.acked) - s'.place

-- its link was stopped by it
abbrev pub stops : SenderView → SenderView → Bool
stops s s' = not s.stopped && s'.stopped

abbrev pub replay_by : Bool → ℕ → Replay
replay_by true places = replays.Stopped places
replay_by false places = if places == 0 then replays.Nothing else replays.Again places

abbrev pub replay_between : SenderView → SenderView → Replay
replay_between s s' = replay_by (stops s s') (places_back s s')
