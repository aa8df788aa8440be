-- Where the parts of a picture stand. A point is a length of the history; an offset counts points from the first that
-- is shown.
use Rattle.std.specs.Prelude.{ℕ, ◌+◌, ◌-◌, ◌*◌, ◌/◌, ◌&&◌, ◌||◌, nat_le, nat_lt, min, max, Bool, if◌then◌else◌, List, [], ◌∷◌, ◌++◌, length, set, Option, Some, None, option_map, is_none}
use Rattle.seq_memory.specs.Entries.{Entry}
use Rattle.history_words.specs.Records.{Record}
use Rattle.history_words.specs.Flaws.{first_place, place_of}
use Rattle.history_words.specs.Trace.{answers_to}
use Rattle.history_bars.specs.declared.scale.Scale.{Scale}
use Rattle.history_bars.specs.declared.bars.Bar.{Bar}

-- ---- places

-- pixels from the left, 96 for each point
abbrev pub x_at : ℕ → ℕ
x_at offset = 120 + 96 * offset

-- ---- what is known of a request

-- how long the history was once request k of requester i had acted
abbrev pub acted_in : List Entry → ℕ → ℕ → Option ℕ
acted_in h i k = option_map (λ p. p + 1) (place_of h i k)

-- the place of the first answer to it
abbrev pub answer_in : List Record → ℕ → ℕ → Option ℕ
answer_in rs i k = first_place (answers_to i k) rs

-- ---- bars

-- how far a bar reaches: a posted request's as far as its entry, any other's to its answer; none where that never came
abbrev pub reach : Bool → Option ℕ → Option ℕ → Option ℕ
reach is_posted answered acted = if is_posted then acted else answered

-- part of the bar is shown
abbrev pub is_shown : Scale → ℕ → Option ℕ → Bool
is_shown s n None = nat_le (n - s.from) s.span
is_shown s n (Some end) = nat_le (n - s.from) s.span && (nat_lt s.from end || nat_le s.from n)

-- a bar is one point long at least, and one that goes on ends after the last point
abbrev pub end_of : Scale → ℕ → Option ℕ → ℕ
end_of s start None = s.span + 1
end_of s start (Some end) = max (min (end - s.from) (s.span + 1)) (start + 1)

-- the bar of a request that was submitted at n
abbrev pub bar_of : Scale → Bool → ℕ → Option ℕ → Option ℕ → Option Bar
bar_of s is_posted n answered acted =
    if is_shown s n (reach is_posted answered acted)
    then Some (record { start = n - s.from; end = end_of s (n - s.from) (reach is_posted answered acted); is_open = is_posted || is_none answered })
    else None

-- there is room in the bar for texts of so many characters, 8 pixels each
abbrev pub fits : Bar → ℕ → Bool
fits bar count = nat_le (x_at bar.start + 8 + 8 * count) (x_at bar.end)

-- its texts stand in the bar, if there is room, and else behind it
abbrev pub text_x : Bar → ℕ → ℕ
text_x bar count = if fits bar count then x_at bar.start + 5 else x_at bar.end + 5

-- how far below the bar's upper edge the white begins that is behind the texts: behind both lines where they stand behind
-- the bar, and in the bar behind a reply alone that isn't the expected one
abbrev pub white_from : Bar → ℕ → Bool → Option ℕ
white_from bar count is_wrong = if fits bar count then (if is_wrong then Some 18 else None) else Some 2

-- the point where the bar and its texts have ended
abbrev pub taken : Bar → ℕ → ℕ
taken bar count = if fits bar count then bar.end else bar.end + 1 + count / 12

-- where the dot stands of a request that had acted at that length
abbrev pub dot_at : Scale → Option ℕ → Option ℕ
dot_at s None = None
dot_at s (Some acted) = if nat_lt s.from acted && nat_le (acted - s.from) s.span then Some (acted - s.from) else None

-- ---- sub-rows

-- the first sub-row in which the last bar and its texts have ended
abbrev pub free_row : List ℕ → ℕ → ℕ
free_row [] start = 0
free_row (end ∷ ends) start = if nat_le end start then 0 else free_row ends start + 1

-- a requester has 256 sub-rows at most; what finds none of them free stands in the last
abbrev pub row_for : List ℕ → ℕ → ℕ
row_for ends start = min (free_row ends start) 255

-- the ends of the sub-rows with a bar more
abbrev pub with_bar : List ℕ → ℕ → ℕ → List ℕ
with_bar ends row end = if nat_lt row (length ends) then set ends row end else ends ++ end ∷ []

-- 40 pixels for each sub-row
abbrev pub rows_height : List ℕ → ℕ
rows_height ends = 40 * min (length ends) 256 + 10
