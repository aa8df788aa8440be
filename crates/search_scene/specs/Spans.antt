-- The column where a bar begins and ends.
use Rattle.std.specs.Prelude.{ℕ, ◌≡◌, ◌⊎◌, true, false, length, slice_get, Some}
use Rattle.tlp_core.specs.Ops.{Op}
use Rattle.history_words.specs.declared.record.RecordOf.TheVariants as records
use Rattle.search_scene.specs.declared.bars.Span.{Span}
use Rattle.search_scene.specs.Scenes.{Page, IsAnswered, IsColumnOf, unanswered}

-- the record at the place submits that request
abbrev pub IsAskedAt : Page → ℕ → ℕ → Op → ℕ → Type 0
IsAskedAt page requester number op place = (since : ℕ) × (slice_get page.trace.records place ≡ Some (records.Sub requester number op since))

-- a bar of a request that is submitted at that place
abbrev pub IsSpan : Page → ℕ → ℕ → Op → ℕ → Span → Type 0
IsSpan page requester number op place s =
    IsAskedAt page requester number op place × IsColumnOf page s.from place
    × ((s.is_open ≡ false) × IsAnswered page requester number s.end.to s.end.said.items
    ⊎ (s.is_open ≡ true) × (s.end.to ≡ length page.columns) × (s.end.said.items ≡ unanswered page requester number op))
