-- Places that are known to be dead.
use Rattle.std.specs.Prelude.{ℕ, ◌≡◌, ◌*◌, List, [], ◌∷◌, ◌++◌, length, take, drop, replicate, Bool}
use Rattle.std.specs.List.{All}
use Rattle.log_runs.specs.LogView.{LogView}
use Rattle.log_runs.specs.Runs.{Dead}
use Rattle.search_places.specs.Pending.{IsTable}
use Rattle.search_places.specs.declared.memo.Key.{Key}
use Rattle.search_places.specs.declared.memo.Entry.{Entry}
use Rattle.search_places.specs.declared.memo.Memo.{Memo}

-- blocks of 64 bytes, each behind so many zeros
abbrev pub laid : List ℕ → List ℕ → List ℕ
laid [] bytes = []
laid (gap ∷ gaps) bytes = replicate gap 0 ++ take 64 bytes ++ laid gaps (drop 64 bytes)

-- the bytes of the memory, as a key keeps them
abbrev pub whole : Key → List ℕ
whole k = laid k.gaps.items k.bytes.items ++ replicate k.after 0

-- it has a block for each gap
abbrev pub IsEven : Key → Type 0
IsEven k = length k.bytes.items ≡ 64 * length k.gaps.items

-- whoever has acted there, no run leads from the place to the end
abbrev pub IsDeadKey : LogView → Key → Type 0
IsDeadKey log k = (acted : List Bool) → IsTable log k.event k.pending.items acted → Dead log (record { event = k.event; acted = acted; bytes = whole k })

abbrev pub IsDeadEntry : LogView → Entry → Type 0
IsDeadEntry log e = IsDeadKey log e.key

abbrev pub AreDead : LogView → Memo → Type 0
AreDead log memo = All (IsDeadEntry log) memo.entries.items
