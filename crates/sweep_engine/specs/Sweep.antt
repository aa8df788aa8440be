-- What `sweep` writes.
use Rattle.std.specs.Prelude.{◌≡◌, ◌⊎◌, ◌≤◌, ◌+◌, ◌-◌, ◌^◌, min, not, ℕ, Bool, true, false, if◌then◌else◌, List, [], ◌∷◌, ◌++◌, fold, length, codes, Option}
use Rattle.std.specs.Fmt.{decimal}
use Rattle.std.specs.Io.KnownBytes.{Appends}
use Rattle.line_loop.specs.Run.{IsBeginning}
use Rattle.parameters.specs.declared.storm.Storm.{Storm}
use Rattle.sweep_engine.specs.declared.options.Sweep.{Sweep}
use Rattle.sweep_engine.specs.declared.piping.Said.{Said}
use Rattle.sweep_engine.specs.Pipe.{AreSaid, storm_of}

-- a sweep so far: how many seeds were ok, a number of 64 bits; its lines, its exit status, and whether no more is told
pub record Swept : Type 0 where
  pub ok : ℕ
  pub text : List ℕ
  pub status : ℕ
  pub has_ended : Bool

-- ---- a seed that fails

abbrev pub option_text : List ℕ → ℕ → List ℕ
option_text name n = name ++ decimal n

-- how `generate` is asked for a storm
abbrev pub storm_words : Storm → List ℕ
storm_words s = option_text (codes "pciex generate --seed ") s.seed ++ (option_text (codes " --events ") s.events ++ option_text (codes " --requesters ") s.requesters)

abbrev pub link_words : Storm → List ℕ
link_words s = option_text (codes " --lose ") s.lose ++ (option_text (codes " --corrupt ") s.corrupt ++ option_text (codes " --block ") s.block)

abbrev pub check_words : Bool → List ℕ
check_words true = codes " | pciex step --trace | pciex check --clocked\n"
check_words false = codes " | pciex step --trace | pciex check\n"

-- the pipe that does the storm
unfoldable pub pipe_line : Bool → Storm → List ℕ
pipe_line is_clocked s = storm_words s ++ (link_words s ++ check_words is_clocked)

-- how its lines begin
unfoldable pub failed_words : ℕ → List ℕ
failed_words seed = option_text (codes "failed ") seed ++ 32 ∷ []

-- its seed, with the line of `check`; and the line of its pipe
abbrev pub failure : Sweep → Said → List ℕ
failure o x = failed_words x.seed ++ (x.text.items ++ pipe_line o.is_clocked (storm_of o x.seed))

-- ---- one seed after the other

abbrev pub one_more : Swept → Swept
one_more w = record w { ok = min (w.ok + 1) (2 ^ 64 - 1) }

abbrev pub failed : Sweep → Swept → Said → Swept
failed o w x = record { ok = w.ok; text = w.text ++ failure o x; status = 1; has_ended = not o.keeps_going }

abbrev pub after_said : Sweep → Swept → Said → Swept
after_said o w x = if w.has_ended then w else (if x.is_ok then one_more w else failed o w x)

abbrev pub none_said : Swept
none_said = record { ok = 0; text = []; status = 0; has_ended = false }

abbrev pub swept : Sweep → List Said → Swept
swept o saids = fold (after_said o) none_said saids

-- the last line counts the seeds that were ok
abbrev pub last_line : ℕ → List ℕ
last_line ok = option_text (codes "ok ") ok ++ 10 ∷ []

abbrev pub whole_text : Swept → List ℕ
whole_text w = w.text ++ last_line w.ok

-- ---- what is written

-- so many seeds there are
abbrev pub seeds_in : Sweep → ℕ
seeds_in o = (o.last - o.storm.seed) + 1

-- the output for all seeds was written, or for those up to the first that fails
pub record IsWhole (o : Sweep) (out out' : Option (List ℕ)) (exit : ℕ) : Type 0 where
  pub saids : List Said
  pub said : AreSaid o o.storm.seed saids
  pub few : length saids ≤ seeds_in o
  pub all : (length saids ≡ seeds_in o) ⊎ ((swept o saids).has_ended ≡ true)
  pub written : Appends out out' (whole_text (swept o saids))
  pub exit_status : exit ≡ (swept o saids).status

-- a prefix of the output for some of the first seeds was written
pub record IsPart (o : Sweep) (out out' : Option (List ℕ)) : Type 0 where
  pub saids : List Said
  pub said : AreSaid o o.storm.seed saids
  pub few : length saids ≤ seeds_in o
  pub done : List ℕ
  pub begins : IsBeginning done (whole_text (swept o saids))
  pub written : Appends out out' done

-- the whole output was written, and the exit status is the sweep's; or a prefix of it, and the exit status is 1
abbrev pub IsSwept : Sweep → Option (List ℕ) → Option (List ℕ) → ℕ → Type 0
IsSwept o out out' exit = IsWhole o out out' exit ⊎ ((exit ≡ 1) × IsPart o out out')

-- ---- a sweep under way

-- with these lines before its own
abbrev pub prefixed : List ℕ → Swept → Swept
prefixed written w = record w { text = written ++ w.text }

-- what was written, and the sweep that is to be written, are that of so many seeds, or of those up to the first that fails
pub record Stands (o : Sweep) (n : ℕ) (written : List ℕ) (w : Swept) : Type 0 where
  pub saids : List Said
  pub said : AreSaid o o.storm.seed saids
  pub few : length saids ≤ n
  pub all : (length saids ≡ n) ⊎ (w.has_ended ≡ true)
  pub told : swept o saids ≡ prefixed written w

-- a prefix of what so many seeds or fewer make
pub record Begins (o : Sweep) (n : ℕ) (done : List ℕ) : Type 0 where
  pub saids : List Said
  pub said : AreSaid o o.storm.seed saids
  pub few : length saids ≤ n
  pub begins : IsBeginning done (whole_text (swept o saids))
