-- What a pipe of three programs says of a storm.
use Rattle.std.specs.Prelude.{◌≡◌, ◌+◌, ◌&&◌, ℕ, nat_eq, Bool, true, List, [], ◌∷◌, Option, Some, IfSome}
use Rattle.parameters.specs.declared.storm.Storm.{Storm}
use Rattle.generate_engine.specs.Script.{IsWhole}
use Rattle.step_engine.specs.Step.{out_step}
use Rattle.trace_engine.specs.Check.{out_check_with}
use Rattle.sweep_engine.specs.declared.options.Sweep.{Sweep}
use Rattle.sweep_engine.specs.declared.piping.Said.{Said}

-- what `step --trace` writes of a script
abbrev pub traced : List ℕ → List ℕ
traced script = (out_step true script).text

-- what `step --trace | check` says of a script
abbrev pub said_of : Bool → List ℕ → List ℕ
said_of is_clocked script = (out_check_with is_clocked (traced script)).text

-- both end with status 0
abbrev pub is_ok : Bool → List ℕ → Bool
is_ok is_clocked script = nat_eq (out_step true script).status 0 && nat_eq (out_check_with is_clocked (traced script)).status 0

-- `generate | step --trace | check` says this text of the storm, and each of the three ends with status 0 or not
pub record IsPiped (is_clocked : Bool) (s : Storm) (text : List ℕ) (ok : Bool) : Type 0 where
  pub script : List ℕ
  pub generated : IsWhole s (Some []) (Some script)
  pub says : text ≡ said_of is_clocked script
  pub ends : ok ≡ is_ok is_clocked script

-- the storm of a seed
abbrev pub storm_of : Sweep → ℕ → Storm
storm_of o seed = record o.storm { seed = seed }

-- this is said of the seed
pub record IsSaid (o : Sweep) (n : ℕ) (said : Said) : Type 0 where
  pub seed : said.seed ≡ n
  pub piped : IsPiped o.is_clocked (storm_of o n) said.text.items said.is_ok

-- this is said of seeds in turn, from the first on
abbrev pub AreSaid : Sweep → ℕ → List Said → Type 0
AreSaid o first [] = Unit {0}
AreSaid o first (said ∷ rest) = IsSaid o first said × AreSaid o (first + 1) rest

-- the same where the threads found something to say: nothing where one was out of memory
abbrev pub AreFound : Sweep → ℕ → List (Option Said) → Type 0
AreFound o first [] = Unit {0}
AreFound o first (found ∷ rest) = IfSome found (IsSaid o first) × AreFound o (first + 1) rest
