-- What the first flaw of a trace is found at, which request it names, and the line that tells it.
use Rattle.std.specs.Prelude.{ℕ, ◌∷◌, ◌++◌, Bool, true, false, codes, if◌then◌else◌, List, slice_get, Option, Some, None, option_map, option_and_then}
use Rattle.std.specs.Fmt.{decimal}
use Rattle.seq_memory.specs.Entries.{Entry, Reply}
use Rattle.seq_memory.specs.History.{extent_of, reply_at}
use Rattle.history_words.specs.Claim.{Claim}
use Rattle.history_words.specs.Flaws.{place_of}
use Rattle.history_words.specs.Records.{Record}
use Rattle.history_words.specs.declared.record.RecordOf.TheVariants as records
use Rattle.history_words.specs.declared.flaws.Flaw.{Flaw}
use Rattle.history_words.specs.declared.flaws.FlawKind.{FlawKind}
use Rattle.history_words.specs.declared.flaws.FlawKind.TheVariants as flaws
use Rattle.history_words.specs.Names.{number_of, name_of}

-- it is found at an index of the history, and else at a record
abbrev pub is_of_entry : FlawKind → Bool
is_of_entry flaws.Stranger = true
is_of_entry flaws.Twice = true
is_of_entry flaws.Order = true
is_of_entry _ = false

-- the requester and the number of a request
abbrev pub request_of_entry : Entry → ℕ × ℕ
request_of_entry e = (e.requester, e.number)

abbrev pub request_of_record : Record → ℕ × ℕ
request_of_record (records.Sub i k op n) = (i, k)
request_of_record (records.Ans i k reply n) = (i, k)

-- the request that it names, none where nothing stands at its place
abbrev pub flawed_request : List Record → List Entry → Option Flaw → Option (ℕ × ℕ)
flawed_request rs h None = None
flawed_request rs h (Some f) = if is_of_entry f.kind then option_map request_of_entry (slice_get h f.place) else option_map request_of_record (slice_get rs f.place)

abbrev pub flaw_line : FlawKind → ℕ → List ℕ
flaw_line kind place = codes "flaw " ++ decimal (number_of kind) ++ 32 ∷ name_of kind ++ 32 ∷ decimal place

abbrev pub is_of_reply : FlawKind → Bool
is_of_reply flaws.Reply = true
is_of_reply _ = false

-- what the memory replies to the request where it stands in the history
abbrev pub reply_to : Claim → ℕ × ℕ → Option Reply
reply_to x q = option_and_then (reply_at (extent_of x.memory) x.memory.entries) (place_of x.memory.entries q.0 q.1)

-- of a flaw of a reply: the reply that is expected in its place
abbrev pub expected_reply : Claim → Flaw → Option Reply
expected_reply x f = if is_of_reply f.kind then option_and_then (reply_to x) (flawed_request x.records x.memory.entries (Some f)) else None
