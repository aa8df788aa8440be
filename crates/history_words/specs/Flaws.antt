-- The flaws of a trace and a history, in the order in which they are looked for.
use Rattle.std.specs.Prelude.{ℕ, zero, suc, ◌≡◌, ◌+◌, not, ◌&&◌, ◌||◌, ◌==◌, nat_lt, nat_le, Bool, true, false, if◌then◌else◌, cond, List, [], ◌∷◌, length, take, slice_get, Option, Some, None, is_some, is_none, option_map, option_and_then, bytes_eq}
use Rattle.std.specs.List.{list_any}
use Rattle.std.specs.Option.{option_or}
use Rattle.tlp_core.specs.Ops.{Op}
use Rattle.tlp_core.specs.Operation.{is_posted, size_of}
use Rattle.tlp_core.specs.declared.operation.OpOf.TheVariants as ops
use Rattle.seq_memory.specs.declared.reply.ReplyOf.TheVariants as replies
use Rattle.seq_memory.specs.Entries.{Entry}
use Rattle.seq_memory.specs.Entries.{Reply}
use Rattle.seq_memory.specs.History.{extent_of, reply_at}
use Rattle.history_words.specs.Claim.{Claim}
use Rattle.history_words.specs.Records.{Record}
use Rattle.history_words.specs.declared.record.RecordOf.TheVariants as records
use Rattle.history_words.specs.declared.flaws.FlawKind.{FlawKind}
use Rattle.history_words.specs.declared.flaws.FlawKind.TheVariants as flaws
use Rattle.history_words.specs.declared.flaws.Flaw.{Flaw}
use Rattle.history_words.specs.Trace.{submissions, answers_to, is_request}

-- a test on the value, false where there is none
abbrev pub some_and : {X : Type 0} → Option X → (X → Bool) → Bool
some_and None test = false
some_and (Some x) test = test x

-- where the first stands that passes
abbrev pub first_place : {X : Type 0} → (X → Bool) → List X → Option ℕ
first_place test [] = None
first_place test (x ∷ xs) = cond (test x) (Some 0) (option_map (λ n. n + 1) (first_place test xs))

-- the flaw at the first place below count that has one
unfoldable pub first_at : (ℕ → Option FlawKind) → ℕ → Option (FlawKind × ℕ)
first_at flaw zero = None
first_at flaw (suc n) = option_or (first_at flaw n) (option_map (λ kind. (kind, n)) (flaw n))

-- the test passes at a number below count
unfoldable pub any_below : (ℕ → Bool) → ℕ → Bool
any_below test zero = false
any_below test (suc n) = any_below test n || test n

-- a test on the element at a place
abbrev pub at_place : {X : Type 0} → (X → Bool) → List X → ℕ → Bool
at_place test xs p = some_and (slice_get xs p) test

-- ---- tests of equality, which compute

abbrev pub same_op : Op → Op → Bool
same_op (ops.Read a d f l) (ops.Read b e g m) = (a == b) && (d == e) && (f == g) && (l == m)
same_op (ops.Write a f l xs) (ops.Write b g m ys) = (a == b) && (f == g) && (l == m) && bytes_eq xs.items ys.items
same_op (ops.FetchAdd a w x) (ops.FetchAdd b v y) = (a == b) && (size_of w == size_of v) && (x == y)
same_op (ops.Swap a w x) (ops.Swap b v y) = (a == b) && (size_of w == size_of v) && (x == y)
same_op (ops.Cas a w x s) (ops.Cas b v y t) = (a == b) && (size_of w == size_of v) && (x == y) && (s == t)
same_op _ _ = false

abbrev pub same_reply : Reply → Reply → Bool
same_reply replies.Done replies.Done = true
same_reply (replies.Data xs) (replies.Data ys) = bytes_eq xs.items ys.items
same_reply replies.Unsupported replies.Unsupported = true
same_reply replies.Aborted replies.Aborted = true
same_reply _ _ = false

-- ---- look-ups

-- a record of submission k of requester i
abbrev pub is_sub : ℕ → ℕ → Record → Bool
is_sub i k (records.Sub j m op n) = (i == j) && (k == m)
is_sub i k (records.Ans j m reply n) = false

-- where it stands
abbrev pub sub_place : List Record → ℕ → ℕ → Option ℕ
sub_place rs i k = first_place (is_sub i k) rs

-- where the request stands first
abbrev pub place_of : List Entry → ℕ → ℕ → Option ℕ
place_of h i k = first_place (is_request i k) h

-- ---- 1, at each record

abbrev pub is_numbered : List Record → Record → Bool
is_numbered before (records.Sub i k op n) = k == length (submissions before i)
is_numbered before (records.Ans i k reply n) = true

abbrev pub numbering_flaw : List Record → Record → Option FlawKind
numbering_flaw before r = if is_numbered before r then None else Some flaws.Numbering

unfoldable pub numbering_at : List Record → ℕ → Option FlawKind
numbering_at rs a = option_and_then (numbering_flaw (take a rs)) (slice_get rs a)

-- ---- 2 to 4, at each index of the history

-- a submission of the operation
abbrev pub submits : Op → Record → Bool
submits op (records.Sub i k other n) = same_op op other
submits op (records.Ans i k reply n) = false

abbrev pub submits_write : Record → Bool
submits_write (records.Sub i k op n) = is_posted op
submits_write (records.Ans i k reply n) = false

-- number j of the requester is a posted write that is not among the entries before
unfoldable pub misses : List Record → List Entry → ℕ → ℕ → Bool
misses rs before i j = some_and (sub_place rs i j) (at_place submits_write rs) && is_none (place_of before i j)

abbrev pub is_stranger : List Record → Entry → Bool
is_stranger rs e = not (some_and (sub_place rs e.requester e.number) (at_place (submits e.op) rs))

abbrev pub entry_flaw : List Record → List Entry → Entry → Option FlawKind
entry_flaw rs before e =
    if is_stranger rs e then Some flaws.Stranger
    else (if is_some (place_of before e.requester e.number) then Some flaws.Twice
    else (if any_below (misses rs before e.requester) e.number then Some flaws.Order else None))

unfoldable pub entry_at : List Record → List Entry → ℕ → Option FlawKind
entry_at rs h p = option_and_then (entry_flaw rs (take p h)) (slice_get h p)

-- ---- 5 to 11, at each answer

abbrev pub asks : Record → Bool
asks (records.Sub i k op n) = not (is_posted op)
asks (records.Ans i k reply n) = false

-- H's length at the record
abbrev pub moment : Record → ℕ
moment (records.Sub j m op n) = n
moment (records.Ans j m reply n) = n

-- the record answers requester i, and its request's place isn't below p
abbrev pub had_later : (ℕ → ℕ → Option ℕ) → ℕ → ℕ → Record → Bool
had_later place i p (records.Sub j m op n) = false
had_later place i p (records.Ans j m reply n) = (i == j) && some_and (place j m) (nat_le p)

-- what is known of the request that an answer names: the place of its submission and its point
abbrev pub acted_flaw : Claim → ℕ → Reply → ℕ → ℕ → ℕ → Option FlawKind
acted_flaw x i reply n b p =
    if at_place (λ r. nat_lt p (moment r)) x.records b then Some flaws.Early
    else (if nat_le n p then Some flaws.Late
    else (if not (some_and (reply_at (extent_of x.memory) x.memory.entries p) (same_reply reply)) then Some flaws.Reply
    else (if list_any (had_later (place_of x.memory.entries) i p) (take b x.records) then Some flaws.Stale else None)))

abbrev pub point_flaw : Claim → ℕ → Reply → ℕ → ℕ → Option ℕ → Option FlawKind
point_flaw x i reply n b None = Some flaws.Absent
point_flaw x i reply n b (Some p) = acted_flaw x i reply n b p

abbrev pub asked_flaw : Claim → ℕ → ℕ → ℕ → Reply → ℕ → Option ℕ → Option ℕ → Option FlawKind
asked_flaw x a i k reply n None _ = Some flaws.Unasked
asked_flaw x a i k reply n (Some b) point =
    if not (nat_lt b a && at_place asks x.records b) then Some flaws.Unasked
    else (if list_any (answers_to i k) (take a x.records) then Some flaws.Again
    else point_flaw x i reply n b point)

abbrev pub answer_flaw : Claim → ℕ → Record → Option FlawKind
answer_flaw x a (records.Sub i k op n) = None
answer_flaw x a (records.Ans i k reply n) =
    asked_flaw x a i k reply n (sub_place x.records i k) (place_of x.memory.entries i k)

unfoldable pub answer_at : Claim → ℕ → Option FlawKind
answer_at x a = option_and_then (answer_flaw x a) (slice_get x.records a)

-- ---- 13, at each record, where it is asked for: n is no length of a history that grew

-- the request that the record submits stands below n
abbrev pub acts_early : List Entry → Record → Bool
acts_early h (records.Sub i k op n) = some_and (place_of h i k) (λ p. nat_lt p n)
acts_early h (records.Ans i k reply n) = false

-- a record before has a greater n, or n is above H's length
abbrev pub clock_flaw : List Entry → List Record → Record → Option FlawKind
clock_flaw h before r =
    if list_any (λ q. nat_lt (moment r) (moment q)) before || (nat_lt (length h) (moment r) || acts_early h r) then Some flaws.Clock else None

unfoldable pub clock_at : List Record → List Entry → ℕ → Option FlawKind
clock_at rs h a = option_and_then (clock_flaw h (take a rs)) (slice_get rs a)

-- ---- the first that holds

abbrev pub first_flaw : Claim → Option (FlawKind × ℕ)
first_flaw x =
    option_or (first_at (numbering_at x.records) (length x.records))
    (option_or (first_at (entry_at x.records x.memory.entries) (length x.memory.entries))
    (first_at (answer_at x) (length x.records)))

abbrev pub first_clock_flaw : Claim → Option (FlawKind × ℕ)
first_clock_flaw x = first_at (clock_at x.records x.memory.entries) (length x.records)

-- where the n's are asked for, too
abbrev pub first_flaw_clocked : Claim → Option (FlawKind × ℕ)
first_flaw_clocked x = option_or (first_flaw x) (first_clock_flaw x)

-- the flaw is the first one; where an allocation failed, the place is 0
pub record Tells (first : Option (FlawKind × ℕ)) (f : Flaw) : Type 0 where
  pub told : (f.kind ≡ flaws.Memory → ⊥) → first ≡ Some (f.kind, f.place)
  pub refused : f.kind ≡ flaws.Memory → f.place ≡ 0
