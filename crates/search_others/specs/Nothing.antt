-- What stands at a word, or is left there, is nothing to a request.
use Rattle.std.specs.Prelude.{ℕ, List, ◌≡◌, slice_get, Some, false}
use Rattle.log_runs.specs.LogView.{LogView}
use Rattle.log_runs.specs.Runs.{State}
use Rattle.search_rules.specs.Rules.{IsJunkAt, LeavesJunkAt}
use Rattle.search_others.specs.declared.junk.Junk.{Junk}
use Rattle.search_others.specs.declared.junk.Junk.TheVariants as junk

-- it is nothing to request b at word w, where the bytes are as in m
abbrev pub IsNothing : LogView → List ℕ → Junk → ℕ → ℕ → Type 0
IsNothing log m (junk.Standing x) w b = (x.q ≡ b → ⊥) → ((i : ℕ) → slice_get x.but.now i ≡ Some b → ⊥) → IsJunkAt log m b w
IsNothing log m (junk.LeftBy g) w b = LeavesJunkAt log b g w

-- it is nothing to request b, if it hasn't acted in s
abbrev pub Ignores : LogView → State → Junk → ℕ → ℕ → Type 0
Ignores log s k w b = slice_get s.acted b ≡ Some false → IsNothing log s.bytes k w b
