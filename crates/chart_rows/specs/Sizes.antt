-- Bounds of places on a chart, in pixels. What is added to one of them stays far below 2^64.
use Rattle.std.specs.Prelude.{ℕ, ◌≤◌}

-- where the line of a part stands
abbrev pub IsColumn : ℕ → Type 0
IsColumn x = x ≤ 110000

-- how far across an arrow begins or ends
abbrev pub IsAcross : ℕ → Type 0
IsAcross x = x ≤ 300000

-- where a row begins
abbrev pub IsRowTop : ℕ → Type 0
IsRowTop y = y ≤ 2000000

-- how far down an arrow begins or ends
abbrev pub IsDown : ℕ → Type 0
IsDown y = y ≤ 2000100

-- across or down, anywhere on the page
abbrev pub IsOnPage : ℕ → Type 0
IsOnPage n = n ≤ 3000000

-- a page has so many rows at most
abbrev pub AreRows : ℕ → Type 0
AreRows n = n ≤ 1000
