-- What passes of the recorder's queue know, and the rule that holds of them and of what it holds.
use Rattle.std.specs.Prelude.{◌≡◌, ◌==◌, ◌<◌, ℕ, ◌+◌, zero, suc, List, [], ◌∷◌, ◌++◌, filter}
use Rattle.std.specs.List.{AllByRecursion as Each}
use mathlib.Core.Option.{some}
use lib.ListN.{get_elem?}
use Rattle.history_words.specs.Records.{Record}
use Rattle.history_words.specs.Lookup.{requester_of}
use Rattle.recorder.specs.declared.laws.Pushed.{Pushed}
use Rattle.recorder.specs.declared.laws.Taken.{Taken}
use Rattle.recorder.specs.declared.laws.Knows.{Knows}
use Rattle.recorder.specs.declared.laws.Knows.TheVariants as knows

-- the records of requester i, in order
abbrev pub records_by : ℕ → List Record → List Record
records_by i rs = filter (λ r. i == requester_of r) rs

-- the number of a requester, 1 to 7
abbrev pub IsRequesterNumber : ℕ → Type 0
IsRequesterNumber i = (0 < i) × (i < 8)

-- each record is of such a requester
abbrev pub AreOfRequesters : List Record → Type 0
AreOfRequesters rs = Each (λ r. IsRequesterNumber (requester_of r)) rs

-- ---- what passes know

-- nothing was pushed
abbrev pub fresh : ℕ → Pushed
fresh i = record { requester = i; records = [] }

-- so many requesters from that one on, who pushed nothing
abbrev pub unbegun : ℕ → ℕ → List Pushed
unbegun zero i = []
unbegun (suc n) i = fresh i ∷ unbegun n (i + 1)

-- the checker's pass at first
abbrev pub newcomer : Knows
newcomer = knows.Taker (record { known = unbegun 7 1; records = [] })

-- the record pushed last
abbrev pub with_pushed : Pushed → Record → Pushed
with_pushed p r = record { requester = p.requester; records = p.records ++ r ∷ [] }

-- the record taken last
abbrev pub with_taken : Taken → Record → Taken
with_taken t r = record { known = t.known; records = t.records ++ r ∷ [] }

-- what a requester's pass knows
abbrev pub pushed_of : Knows → Pushed
pushed_of (knows.Pusher p) = p
pushed_of (knows.Taker t) = fresh 0
pushed_of knows.Spent = fresh 0

-- what the checker's pass knows
abbrev pub taken_of : Knows → Taken
taken_of (knows.Taker t) = t
taken_of (knows.Pusher p) = record { known = []; records = [] }
taken_of knows.Spent = record { known = []; records = [] }

-- ---- the rule

-- the pass has that requester, and all that was pushed of it
abbrev pub Owns : (ℕ → ℕ) → List Record → ℕ → Pushed → Type 0
Owns owner all pass p = (owner p.requester ≡ pass) × (p.records ≡ records_by p.requester all) × IsRequesterNumber p.requester

-- what a pass knows fits the one checker, what it got, and all that was pushed
abbrev pub Fits : (ℕ → ℕ) → ℕ → List Record → List Record → ℕ → Knows → Type 0
Fits owner reader got all pass (knows.Pusher p) = Owns owner all pass p
Fits owner reader got all pass (knows.Taker t) = (reader ≡ pass) × (t.records ≡ got) × Each (Owns owner all pass) t.known
Fits owner reader got all pass knows.Spent = Unit {0}

-- Each requester has one pass, and there is one checker. What each requester pushed is what was
-- taken of it and then what the queue holds of it, in order. No record is of anyone else
abbrev pub Kept : List Record → List Knows → Type 0
Kept items views =
    (owner : ℕ → ℕ) × (reader : ℕ) × (got : List Record)
    × AreOfRequesters (got ++ items)
    × ((pass : ℕ) (v : Knows) → get_elem? views pass ≡ some v → Fits owner reader got (got ++ items) pass v)

-- ---- what the calls tell

abbrev pub pushes : Knows → Record → Knows → Type 0
pushes v r w = w ≡ knows.Pusher (with_pushed (pushed_of v) r)

abbrev pub takes : Knows → Record → Knows → Type 0
takes v r w = w ≡ knows.Taker (with_taken (taken_of v) r)

-- what a requester pushed is what was taken of it and then what the queue holds of it, and no record is of anyone else
abbrev pub Rests : Knows → List Record → Type 0
Rests v items = Each (λ p. p.records ≡ records_by p.requester ((taken_of v).records ++ items)) (taken_of v).known × AreOfRequesters ((taken_of v).records ++ items)

abbrev pub but_first_of : List Pushed → List Pushed
but_first_of [] = []
but_first_of (p ∷ ps) = ps

abbrev pub first_of : List Pushed → Pushed
first_of [] = fresh 0
first_of (p ∷ ps) = p

-- the checker's pass without the first of its requesters
abbrev pub but_first : Knows → Knows
but_first v = knows.Taker (record { known = but_first_of (taken_of v).known; records = (taken_of v).records })

-- the pass of that requester
abbrev pub first_alone : Knows → Knows
first_alone v = knows.Pusher (first_of (taken_of v).known)

-- the checker's pass with that of a requester
abbrev pub both : Knows → Knows → Knows
both v w = knows.Taker (record { known = (taken_of v).known ++ pushed_of w ∷ []; records = (taken_of v).records })

-- ---- what was taken

-- all that they pushed was taken, in order, each once, and nothing that no requester pushed
abbrev pub IsWhole : Taken → Type 0
IsWhole t = Each (λ p. records_by p.requester t.records ≡ p.records) t.known × AreOfRequesters t.records

-- what was taken of them is a prefix of what they pushed, each once, and nothing that no requester pushed
abbrev pub IsBegun : Taken → Type 0
IsBegun t = Each (λ p. (rest : List Record) × (p.records ≡ records_by p.requester t.records ++ rest)) t.known × AreOfRequesters t.records
