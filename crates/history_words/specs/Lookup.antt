-- What the checker's tables hold, and what it looks up in them.
use Rattle.std.specs.Prelude.{ℕ, ◌≡◌, ◌<◌, ◌&&◌, not, nat_lt, nat_le, take, Bool, false, List, [], length, Option, Some, None, is_none, option_map, slice_get, get_or, if◌then◌else◌, option_and_then}
use Rattle.seq_memory.specs.Entries.{Entry}
use Rattle.std.specs.List.{list_any}
use Rattle.seq_memory.specs.Step.{answer}
use Rattle.seq_memory.specs.History.{extent_of, contents_at}
use Rattle.seq_memory.specs.Entries.{Reply}
use Rattle.history_words.specs.Records.{Record}
use Rattle.history_words.specs.declared.record.RecordOf.TheVariants as records
use Rattle.history_words.specs.declared.flaws.FlawKind.{FlawKind}
use Rattle.history_words.specs.declared.flaws.FlawKind.TheVariants as flaws
use Rattle.history_words.specs.Trace.{submissions, answers_to}
use Rattle.history_words.specs.Flaws.{sub_place, place_of, some_and, first_place, at_place, submits, submits_write, had_later, asks, moment, same_reply}
use Rattle.history_words.specs.Claim.{Claim}

-- the k-th place of row i
abbrev pub place_in : List (List ℕ) → ℕ → ℕ → Option ℕ
place_in rows i k = slice_get (get_or rows i []) k

abbrev pub when : Bool → ℕ → Option ℕ
when test n = if test then Some n else None

abbrev pub submitted_in : List (List ℕ) → List Record → Entry → Option ℕ
submitted_in rows rs e = option_and_then (λ b. when (at_place (submits e.op) rs b) b) (place_in rows e.requester e.number)

abbrev pub point_in : List (List ℕ) → List (Option ℕ) → ℕ → ℕ → Option ℕ
point_in rows points i k = option_and_then (λ b. option_and_then (λ p. p) (slice_get points b)) (place_in rows i k)

abbrev pub write_in : List (List ℕ) → List Record → ℕ → ℕ → Bool
write_in rows rs i k = some_and (place_in rows i k) (at_place submits_write rs)

abbrev pub missing_in : List (List ℕ) → List Record → List (Option ℕ) → ℕ → ℕ → Bool
missing_in rows rs points i k = write_in rows rs i k && is_none (point_in rows points i k)

-- each row has the places of its requester's submissions, by number
pub record IsIndex (rows : List (List ℕ)) (rs : List Record) : Type 0 where
  pub len : length rows ≡ 256
  pub count : (i : ℕ) → i < 256 → length (get_or rows i []) ≡ length (submissions rs i)
  pub at : (i k : ℕ) → i < 256 → place_in rows i k ≡ sub_place rs i k

-- by the place of a submission, the index of its request in the history
pub record ArePoints (points : List (Option ℕ)) (rs : List Record) (h : List Entry) : Type 0 where
  pub len : length points ≡ length rs
  pub at : (i k b : ℕ) → sub_place rs i k ≡ Some b → slice_get points b ≡ Some (place_of h i k)
  pub others : (i k : ℕ) → sub_place rs i k ≡ None → place_of h i k ≡ None

-- ---- answers

abbrev pub requester_of : Record → ℕ
requester_of (records.Sub i k op n) = i
requester_of (records.Ans i k reply n) = i

-- by record, the greatest point of its requester's answers before
pub record AreFloors (floors : List (Option ℕ)) (place : ℕ → ℕ → Option ℕ) (rs : List Record) : Type 0 where
  pub len : length floors ≡ length rs
  pub at : (b p : ℕ) (r : Record) → slice_get rs b ≡ Some r → some_and (get_or floors b None) (nat_le p) ≡ list_any (had_later place (requester_of r) p) (take b rs)

-- by the place of a submission, where the first of the records so far stands that answers it
pub record AreFirsts (firsts : List (Option ℕ)) (rs before : List Record) : Type 0 where
  pub len : length firsts ≡ length rs
  pub at : (i k b : ℕ) → sub_place rs i k ≡ Some b → slice_get firsts b ≡ Some (first_place (answers_to i k) before)

-- an answer with that reply
abbrev pub answers_with : Reply → Record → Bool
answers_with made (records.Sub i k op n) = false
answers_with made (records.Ans i k reply n) = same_reply reply made

abbrev pub is_told_at : List Record → Option ℕ → Reply → Bool
is_told_at rs place made = some_and place (at_place (answers_with made) rs)

-- the first answer to the entry's request has that reply
abbrev pub is_told_in : List (List ℕ) → List (Option ℕ) → List Record → Entry → Reply → Bool
is_told_in rows firsts rs e made = is_told_at rs (point_in rows firsts e.requester e.number) made

-- the first answer to the request at index p has the memory's reply
abbrev pub right_in : List (List ℕ) → List (Option ℕ) → Claim → ℕ → Option Bool
right_in rows firsts x p =
    let m = x.memory in
    option_map (λ e. is_told_in rows firsts x.records e (answer m.base m.block (contents_at (extent_of m) m.entries p) e.op)) (slice_get m.entries p)

abbrev pub acted_in : List Record → List (Option ℕ) → List Bool → ℕ → ℕ → ℕ → Option FlawKind
acted_in rs floors right n b p =
    if at_place (λ r. nat_lt p (moment r)) rs b then Some flaws.Early
    else (if nat_le n p then Some flaws.Late
    else (if not (at_place (λ t. t) right p) then Some flaws.Reply
    else (if at_place (λ o. some_and o (nat_le p)) floors b then Some flaws.Stale else None)))

abbrev pub judged_point : List Record → List (Option ℕ) → List Bool → ℕ → ℕ → Option ℕ → Option FlawKind
judged_point rs floors right n b None = Some flaws.Absent
judged_point rs floors right n b (Some p) = acted_in rs floors right n b p

abbrev pub judged : List Record → List (Option ℕ) → List (Option ℕ) → List (Option ℕ) → List Bool → ℕ → ℕ → Option ℕ → Option FlawKind
judged rs points floors firsts right a n None = Some flaws.Unasked
judged rs points floors firsts right a n (Some b) =
    if not (nat_lt b a && at_place asks rs b) then Some flaws.Unasked
    else (if at_place (λ o. some_and o (λ c. nat_lt c a)) firsts b then Some flaws.Again
    else judged_point rs floors right n b (option_and_then (λ p. p) (slice_get points b)))

-- the tables of an input
pub record AreTables (x : Claim) (rows : List (List ℕ)) (rs : List Record) (points floors firsts : List (Option ℕ)) (right : List Bool) : Type 0 where
  pub same : x.records ≡ rs
  pub indexed : IsIndex rows rs
  pub acted : ArePoints points rs x.memory.entries
  pub floored : AreFloors floors (point_in rows points) rs
  pub answered : AreFirsts firsts rs rs
  pub compared : (p : ℕ) → slice_get right p ≡ right_in rows firsts x p
