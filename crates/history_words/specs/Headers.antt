-- A trace and a history, part by part.
use Rattle.std.specs.Prelude.{ℕ, Bool, false, ◌||◌, nat_lt, List, Option, Some, None, slice_get, option_map}
use Rattle.tlp_core.specs.Operation.{is_posted}
use Rattle.seq_memory.specs.Entries.{Entry}
use Rattle.seq_memory.specs.Step.{after, answer}
use Rattle.seq_memory.specs.History.{MemoryView}
use Rattle.history_words.specs.Records.{Record}
use Rattle.history_words.specs.declared.record.RecordOf.TheVariants as records
use Rattle.history_words.specs.declared.claim.RecordHeader.{RecordHeader}
use Rattle.history_words.specs.declared.claim.RecordHeader.TheVariants as headers
use Rattle.history_words.specs.Claim.{Claim}
use Rattle.history_words.specs.Flaws.{some_and, at_place, submits}
use Rattle.history_words.specs.Lookup.{is_told_at, submitted_in, point_in}

-- the record without its operation or its reply
abbrev pub header_of : Record → RecordHeader
header_of (records.Sub i k op n) = headers.Sub i k (is_posted op) n
header_of (records.Ans i k reply n) = headers.Ans i k n

-- the requester and the number of the record's request
abbrev pub request_of_header : RecordHeader → ℕ × ℕ
request_of_header (headers.Sub i k posted n) = (i, k)
request_of_header (headers.Ans i k n) = (i, k)

-- the requester and the number of an entry's request
abbrev pub request_of : Entry → ℕ × ℕ
request_of e = (e.requester, e.number)

-- the record at the place submits the operation of the entry at the index
abbrev pub submits_at : Claim → ℕ → ℕ → Bool
submits_at x place index = some_and (slice_get x.memory.entries index) (λ e. at_place (submits e.op) x.records place)

-- the bytes after the entry, if there is one
abbrev pub bytes_after : MemoryView → Option Entry → List ℕ → List ℕ
bytes_after m None bytes = bytes
bytes_after m (Some e) bytes = after m.base m.block bytes e.op

-- the record at the place is an answer with the memory's reply on the bytes to the entry at the index
abbrev pub replays_at : Claim → ℕ → Option ℕ → List ℕ → Bool
replays_at x index place bytes = some_and (slice_get x.memory.entries index) (λ e. is_told_at x.records place (answer x.memory.base x.memory.block bytes e.op))

-- n of the record
abbrev pub moment_of : RecordHeader → ℕ
moment_of (headers.Sub i k posted n) = n
moment_of (headers.Ans i k n) = n

-- the record submits the request at that index, and has an n above it
abbrev pub early_at : RecordHeader → Option ℕ → Bool
early_at (headers.Sub i k posted n) point = some_and point (λ p. nat_lt p n)
early_at (headers.Ans i k n) point = false

-- n of the record is below another, above the history's length, or above the index of its request
abbrev pub unclocked_in : RecordHeader → ℕ → ℕ → Option ℕ → Bool
unclocked_in header last most point = nat_lt (moment_of header) last || (nat_lt most (moment_of header) || early_at header point)

-- the entry's requester and number, and where its operation was submitted
abbrev pub found_in : List (List ℕ) → List Record → Entry → Option (ℕ × ℕ × ℕ)
found_in rows rs e = option_map (λ b. (e.requester, e.number, b)) (submitted_in rows rs e)

-- where the first answer to the entry's request stands
abbrev pub first_in : List (List ℕ) → List (Option ℕ) → Entry → Option ℕ
first_in rows firsts e = point_in rows firsts e.requester e.number
