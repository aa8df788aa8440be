-- What each line feed, and the end of the input, does to an engine's stand.
use Rattle.std.proofs.Common.{◌≡◌, ◌≢◌, ◌<◌, ℕ, true, List, [], ◌∷◌, ◌++◌, ◌∙◌, if◌then◌else◌, length, take, refl, ap, ap₂, sym, append_assoc, arith, filter, fold, All, nat_lt, inl, inr, subst, Option, Some, None, IfSome, Result, Ok, Err, OnOk, OnErr}
use Rattle.std.specs.Io.KnownBytes.{Consumes, IsAtEnd}
use Rattle.std.specs.Io.BufRead.{ends_with_byte}
use Rattle.std.proofs.lemmas.Bool.{cases_lt}
use Rattle.std.proofs.lemmas.Bool.Decides.{nat_tests}
use Rattle.std.proofs.lemmas.List.{append-nil, take-append-le, take_all, length-take-le}
use Rattle.std.proofs.lemmas.List.Sums.{fold-append}
use Rattle.std.proofs.lemmas.List.Elements.{filter-append, All-nil, All-append}
use Rattle.hex_text.specs.LineFacts.{NoFeed, no_feed, lines_of-feed, lines_of-last, ends-feed, bare-feed, ends-last}
use Rattle.hex_text.specs.Lines.{lines_of, ended_lines}
use Rattle.line_loop.specs.Run.{Responses, Run, Answer, answer_to, after_line, after_end, with_answer, new_run, run_of, IsBeginning}
use Rattle.line_loop.specs.Engine.{Stands, Begins, IsAnswered, run_at, on_ended_line, on_last_line}

-- ---- answers

pub answer_to-feed : {S : Type 0} (r : Responses S) (s : S) (xs : List ℕ) → answer_to r s (xs ++ 10 ∷ []) ≡ on_ended_line r s xs
answer_to-feed r s xs = rw (bare-feed xs, ends-feed xs) refl

pub answer_to-last : {S : Type 0} (r : Responses S) (s : S) (xs : List ℕ) → All (λ b. b ≢ 10) xs → answer_to r s xs ≡ on_last_line r s xs
answer_to-last r s xs h = rw (ends-last xs h) refl

-- a test for below
ltb-of : (a b : ℕ) → a < b → nat_lt a b ≡ true
ltb-of a b h = grind (arith, nat_tests)

-- only so much of a line is looked at
same-test : (xs : List ℕ) → 512 < length xs → nat_lt 512 (length (take 513 xs)) ≡ nat_lt 512 (length xs)
same-test xs long =
    let len : length (take 513 xs) ≡ 513 = length-take-le 513 xs long in
    rw (len, ltb-of 512 (length xs) long) refl

pub ended-kept : {S : Type 0} (r : Responses S) (s : S) (xs : List ℕ) → on_ended_line r s (take 513 xs) ≡ on_ended_line r s xs
ended-kept r s xs = elim (cases_lt 512 (length xs)) [
  | inl long ↦ rw (same-test xs long, ltb-of 512 (length xs) long) refl
  | inr short ↦ rw (take_all 513 xs (omega arith)) refl
]

pub last-kept : {S : Type 0} (r : Responses S) (s : S) (xs : List ℕ) → on_last_line r s (take 513 xs) ≡ on_last_line r s xs
last-kept r s xs = elim (cases_lt 512 (length xs)) [
  | inl long ↦ rw (same-test xs long, ltb-of 512 (length xs) long) refl
  | inr short ↦ rw (take_all 513 xs (omega arith)) refl
]

-- what is kept of a line that goes on, from what was kept of it
pub kept-more : (xs ys : List ℕ) → take 513 (take 513 xs ++ ys) ≡ take 513 (xs ++ ys)
kept-more xs ys = elim (cases_lt 513 (length xs)) [
  | inl long ↦
      let len : length (take 513 xs) ≡ 513 = length-take-le 513 xs (omega arith) in
      rw (take-append-le 513 (take 513 xs) ys (omega arith), take_all 513 (take 513 xs) (omega arith)) (sym (take-append-le 513 xs ys (omega arith)))
  | inr short ↦ rw (take_all 513 xs short) refl
]

-- ---- runs

-- what is written stays written
fold-begins : {S : Type 0} (r : Responses S) (run : Run S) (ls : List (List ℕ)) → IsBeginning run.text (fold (after_line r) run ls).text
fold-begins r run [] = ([], sym (append-nil run.text))
fold-begins r run (l ∷ ls) =
    let more = fold-begins r (after_line r run l) ls in
    ((answer_to r run.state l).text ++ more.0, more.1 ∙ append_assoc run.text (answer_to r run.state l).text more.0)

-- the output of a run begins with what was written on the way
pub all-begins : {S : Type 0} (r : Responses S) (run : Run S) (ls : List (List ℕ)) → IsBeginning run.text (after_end r (fold (after_line r) run ls)).text
all-begins r run ls =
    let whole = fold (after_line r) run ls in
    let b = fold-begins r run ls in
    (b.0 ++ (r.on_end whole.state).text, ap (λ (t : List ℕ). t ++ (r.on_end whole.state).text) b.1 ∙ append_assoc run.text b.0 (r.on_end whole.state).text)

-- ---- stands

-- a new engine has read nothing
pub stands-new : {S : Type 0} (r : Responses S) (start : S) → Stands r start start [] [] 0 [] []
stands-new r start = record {
  unfinished = [];
  one_line = All-nil (λ b. b ≢ 10);
  kept = refl;
  whole = [];
  ended = refl;
  cut = λ more. refl;
  answered = refl;
}

-- the answers to the lines that have ended, and what is left, make those to all that may follow
pub goes-on : {S : Type 0} (r : Responses S) (start state : S) (line pending : List ℕ) (status : ℕ) (written read : List ℕ)
    → (s : Stands r start state line pending status written read) → (more : List ℕ)
    → fold (after_line r) (new_run start) (lines_of (read ++ more))
    ≡ fold (after_line r) (run_at state (written ++ pending) status) (lines_of (s.unfinished ++ more))
goes-on {S} r start state line pending status written read s more =
    ap (fold (after_line r) (new_run start)) (s.cut more) ∙ fold-append (after_line r) (new_run start) s.whole (lines_of (s.unfinished ++ more))
    ∙ ap (λ (run : Run S). fold (after_line r) run (lines_of (s.unfinished ++ more))) s.answered

-- more of the unfinished line
pub stands-keep : {S : Type 0} (r : Responses S) (start state : S) (line line' pending : List ℕ) (status : ℕ) (written read more : List ℕ)
    → Stands r start state line pending status written read → All (λ b. b ≢ 10) more
    → line' ≡ take 513 (line ++ more)
    → Stands r start state line' pending status written (read ++ more)
stands-keep r start state line line' pending status written read more s one e = record {
  unfinished = s.unfinished ++ more;
  one_line = All-append (λ b. b ≢ 10) s.unfinished more s.one_line one;
  kept = e ∙ ap (λ (t : List ℕ). take 513 (t ++ more)) s.kept ∙ kept-more s.unfinished more;
  whole = s.whole;
  ended = s.ended;
  cut = λ rest. rw (append_assoc read more rest, append_assoc s.unfinished more rest) (s.cut (more ++ rest));
  answered = s.answered;
}

-- the same answer to all of the line as to what was kept
ended-all : {S : Type 0} (r : Responses S) (s : S) (line unfinished tail : List ℕ) → line ≡ take 513 unfinished
    → on_ended_line r s (unfinished ++ tail) ≡ on_ended_line r s (line ++ tail)
ended-all r s line unfinished tail e =
    sym (ended-kept r s (unfinished ++ tail)) ∙ ap (on_ended_line r s) (sym (kept-more unfinished tail))
    ∙ ended-kept r s (take 513 unfinished ++ tail) ∙ ap (λ (t : List ℕ). on_ended_line r s (t ++ tail)) (sym e)

-- a run with one more answer
answered : {S : Type 0} (state state' : S) (pending pending' : List ℕ) (status status' : ℕ) (written : List ℕ) (a : Answer S)
    → state' ≡ a.state → pending' ≡ pending ++ a.text → status' ≡ (if a.is_fault then 1 else status)
    → with_answer (run_at state (written ++ pending) status) a ≡ run_at state' (written ++ pending') status'
answered state state' pending pending' status status' written a e f g = rw (e, f, g, ← append_assoc) refl

-- nothing is kept of nothing alone
no_line : (xs : List ℕ) → take 513 xs ≡ [] → xs ≡ []
no_line [] e = refl
no_line (x ∷ xs) e = cc

-- a text of one line
one-line : (xs : List ℕ) → NoFeed xs → (xs ≡ [] → ⊥) → lines_of xs ≡ xs ∷ []
one-line [] h some = absurd (some refl)
one-line (x ∷ xs) h some = lines_of-last xs x h

-- the end of a line
pub stands-feed : {S : Type 0} (r : Responses S) (start state state' : S) (line pending pending' tail : List ℕ) (status status' : ℕ) (written read : List ℕ)
    → Stands r start state line pending status written read → All (λ b. b ≢ 10) tail
    → state' ≡ (on_ended_line r state (line ++ tail)).state
    → pending' ≡ pending ++ (on_ended_line r state (line ++ tail)).text
    → status' ≡ (if (on_ended_line r state (line ++ tail)).is_fault then 1 else status)
    → Stands r start state' [] pending' status' written (read ++ (tail ++ 10 ∷ []))
stands-feed {S} r start state state' line pending pending' tail status status' written read s one e f g = record {
  unfinished = [];
  one_line = All-nil (λ b. b ≢ 10);
  kept = refl;
  whole = s.whole ++ ((s.unfinished ++ tail) ++ 10 ∷ []) ∷ [];
  ended = filter-append (ends_with_byte 10) s.whole (((s.unfinished ++ tail) ++ 10 ∷ []) ∷ []) ∙ ap₂ (λ (xs ys : List (List ℕ)). xs ++ ys) s.ended (ended_one (s.unfinished ++ tail));
  cut = λ more.
      let regroup : (read ++ (tail ++ 10 ∷ [])) ++ more ≡ read ++ (tail ++ 10 ∷ more) =
      append_assoc read (tail ++ 10 ∷ []) more ∙ ap (λ (t : List ℕ). read ++ t) (append_assoc tail (10 ∷ []) more) in
      let line_is : s.unfinished ++ (tail ++ 10 ∷ more) ≡ (s.unfinished ++ tail) ++ 10 ∷ more = sym (append_assoc s.unfinished tail (10 ∷ more)) in
      let first = lines_of-feed (s.unfinished ++ tail) more (no_feed (s.unfinished ++ tail) (All-append (λ b. b ≢ 10) s.unfinished tail s.one_line one)) in
      ap lines_of regroup ∙ s.cut (tail ++ 10 ∷ more) ∙ ap (λ (ls : List (List ℕ)). s.whole ++ ls) (ap lines_of line_is ∙ first)
      ∙ sym (append_assoc s.whole (((s.unfinished ++ tail) ++ 10 ∷ []) ∷ []) (lines_of more));
  answered =
      let same = answer_to-feed r state (s.unfinished ++ tail) ∙ ended-all r state line s.unfinished tail s.kept in
      fold-append (after_line r) (new_run start) s.whole (((s.unfinished ++ tail) ++ 10 ∷ []) ∷ [])
      ∙ ap (λ (run : Run S). after_line r run ((s.unfinished ++ tail) ++ 10 ∷ [])) s.answered
      ∙ ap (with_answer (run_at state (written ++ pending) status)) same
      ∙ answered state state' pending pending' status status' written (on_ended_line r state (line ++ tail)) e f g;
}
  where
    ended_one : (xs : List ℕ) → filter (ends_with_byte 10) ((xs ++ 10 ∷ []) ∷ []) ≡ (xs ++ 10 ∷ []) ∷ []
    ended_one xs = let test = ends-feed xs in rw test refl

-- what was written and is pending begins the output
pub stands-begins : {S : Type 0} (r : Responses S) (start state : S) (line pending : List ℕ) (status : ℕ) (written read : List ℕ)
    → Stands r start state line pending status written read → Begins r start pending written read
stands-begins {S} r start state line pending status written read s = λ more.
    let b = all-begins r (run_at state (written ++ pending) status) (lines_of (s.unfinished ++ more)) in
    (b.0, ap (λ (run : Run S). (after_end r run).text) (goes-on r start state line pending status written read s more) ∙ b.1)

-- all that was pending is written
pub stands-written : {S : Type 0} (r : Responses S) (start state : S) (line pending : List ℕ) (status : ℕ) (written read : List ℕ)
    → Stands r start state line pending status written read → Stands r start state line [] status (written ++ pending) read
stands-written r start state line pending status written read s = record {
  unfinished = s.unfinished;
  one_line = s.one_line;
  kept = s.kept;
  whole = s.whole;
  ended = s.ended;
  cut = s.cut;
  answered = rw (append-nil (written ++ pending)) s.answered;
}

-- no line has ended in a text without a line feed
not_ended : (xs : List ℕ) → All (λ b. b ≢ 10) xs → ended_lines xs ≡ []
unfolding lines_of
not_ended [] h = refl
not_ended (x ∷ xs) h =
    let test = ends-last (x ∷ xs) h in
    ap (filter (ends_with_byte 10)) (lines_of-last xs x (no_feed (x ∷ xs) h)) ∙ rw test refl

-- where nothing is pending, the answers to the lines that have ended are written
pub stands-caught_up : {S : Type 0} (r : Responses S) (start state : S) (line pending : List ℕ) (status : ℕ) (written read : List ℕ)
    → Stands r start state line pending status written read → pending ≡ []
    → written ≡ (fold (after_line r) (new_run start) (ended_lines read)).text
stands-caught_up {S} r start state line pending status written read s none =
    let lines : ended_lines read ≡ s.whole =
    ap (filter (ends_with_byte 10)) (ap lines_of (sym (append-nil read)) ∙ s.cut [])
    ∙ filter-append (ends_with_byte 10) s.whole (lines_of (s.unfinished ++ []))
    ∙ ap₂ (λ (xs ys : List (List ℕ)). xs ++ ys) s.ended (ap (λ (t : List ℕ). filter (ends_with_byte 10) (lines_of t)) (append-nil s.unfinished) ∙ not_ended s.unfinished s.one_line)
    ∙ append-nil s.whole in
    sym (append-nil written) ∙ ap (λ (t : List ℕ). written ++ t) (sym none) ∙ sym (ap (λ (run : Run S). run.text) s.answered)
    ∙ ap (λ (ls : List (List ℕ)). (fold (after_line r) (new_run start) ls).text) (sym lines)

-- ---- the end of the input

-- no unfinished line: all lines were answered
pub stands-end : {S : Type 0} (r : Responses S) (start state : S) (line pending : List ℕ) (status : ℕ) (written read : List ℕ)
    → Stands r start state line pending status written read → line ≡ []
    → IsAnswered r start state pending status written read
unfolding lines_of
stands-end {S} r start state line pending status written read s e =
    let none : s.unfinished ≡ [] = no_line s.unfinished (sym s.kept ∙ e) in
    ap (λ (t : List ℕ). fold (after_line r) (new_run start) (lines_of t)) (sym (append-nil read)) ∙ goes-on r start state line pending status written read s []
    ∙ ap (λ (t : List ℕ). fold (after_line r) (run_at state (written ++ pending) status) (lines_of (t ++ []))) none

-- an unfinished line is the last one
pub stands-last : {S : Type 0} (r : Responses S) (start state state' : S) (line pending pending' : List ℕ) (status status' : ℕ) (written read : List ℕ)
    → Stands r start state line pending status written read → (line ≡ [] → ⊥)
    → state' ≡ (on_last_line r state line).state
    → pending' ≡ pending ++ (on_last_line r state line).text
    → status' ≡ (if (on_last_line r state line).is_fault then 1 else status)
    → IsAnswered r start state' pending' status' written read
stands-last {S} r start state state' line pending pending' status status' written read s some e f g =
    let there : s.unfinished ≡ [] → ⊥ = λ none. some (s.kept ∙ ap (take 513) none) in
    let same : answer_to r state s.unfinished ≡ on_last_line r state line =
    answer_to-last r state s.unfinished s.one_line ∙ sym (last-kept r state s.unfinished) ∙ ap (on_last_line r state) (sym s.kept) in
    ap (λ (t : List ℕ). fold (after_line r) (new_run start) (lines_of t)) (sym (append-nil read)) ∙ goes-on r start state line pending status written read s []
    ∙ ap (λ (t : List ℕ). fold (after_line r) (run_at state (written ++ pending) status) (lines_of t)) (append-nil s.unfinished)
    ∙ ap (fold (after_line r) (run_at state (written ++ pending) status)) (one-line s.unfinished (no_feed s.unfinished s.one_line) there)
    ∙ ap (with_answer (run_at state (written ++ pending) status)) same
    ∙ answered state state' pending pending' status status' written (on_last_line r state line) e f g

-- the end itself
pub ended : {S : Type 0} (r : Responses S) (start state state' : S) (pending pending' : List ℕ) (status status' : ℕ) (written read : List ℕ)
    → IsAnswered r start state pending status written read
    → state' ≡ (r.on_end state).state
    → pending' ≡ pending ++ (r.on_end state).text
    → status' ≡ (if (r.on_end state).is_fault then 1 else status)
    → run_of r start read ≡ run_at state' (written ++ pending') status'
ended r start state state' pending pending' status status' written read h e f g =
    ap (after_end r) h ∙ answered state state' pending pending' status status' written (r.on_end state) e f g

-- what is answered begins the output
pub answered-begins : {S : Type 0} (r : Responses S) (start state : S) (pending : List ℕ) (status : ℕ) (written read : List ℕ)
    → IsAnswered r start state pending status written read → IsBeginning (written ++ pending) (run_of r start read).text
answered-begins {S} r start state pending status written read h =
    ((r.on_end state).text, ap (λ (run : Run S). (after_end r run).text) h)

-- ---- beginnings

-- a prefix of what is pending
pub begins-part : (written done pending all : List ℕ) → IsBeginning done pending → IsBeginning (written ++ pending) all → IsBeginning (written ++ done) all
begins-part written done pending all a b =
    (a.0 ++ b.0, b.1 ∙ ap (λ (t : List ℕ). (written ++ t) ++ b.0) a.1 ∙ regroup written done a.0 b.0)
  where
    regroup : (x y z w : List ℕ) → (x ++ (y ++ z)) ++ w ≡ (x ++ y) ++ (z ++ w)
    regroup x y z w = simp append_assoc

-- all of it
pub begins-all : (all done : List ℕ) → done ≡ all → IsBeginning done all
begins-all all done e = ([], sym e ∙ sym (append-nil done))

-- what begins the output of all that goes on from what was read begins that of what was read
pub begins-now : {S : Type 0} (r : Responses S) (start : S) (pending written read : List ℕ) → Begins r start pending written read
    → IsBeginning (written ++ pending) (run_of r start read).text
begins-now r start pending written read b =
    subst (λ (t : List ℕ). IsBeginning (written ++ pending) (run_of r start t).text) (append-nil read) (b [])

-- and where the reader's bytes are known, that of the whole input
pub begins-input : {S : Type 0} (r : Responses S) (start : S) (u v : Option (List ℕ)) (pending written read : List ℕ) → Consumes u v read
    → Begins r start pending written read → IfSome u (λ input. IsBeginning (written ++ pending) (run_of r start input).text)
begins-input r start None v pending written read x b = tt
begins-input r start (Some input) None pending written read x b = absurd x
begins-input r start (Some input) (Some rest) pending written read x b =
    subst (λ (t : List ℕ). IsBeginning (written ++ pending) (run_of r start t).text) (sym x) (b rest)

-- so where nothing is left
pub begins-end : {S : Type 0} (r : Responses S) (start : S) (u v : Option (List ℕ)) (done read : List ℕ) → Consumes u v read → IsAtEnd v
    → IsBeginning done (run_of r start read).text → IfSome u (λ input. IsBeginning done (run_of r start input).text)
begins-end r start None v done read x e b = tt
begins-end r start (Some input) None done read x e b = absurd x
begins-end r start (Some input) (Some rest) done read x e b =
    let all : input ≡ read = x ∙ ap (λ (t : List ℕ). read ++ t) e ∙ append-nil read in
    subst (λ (t : List ℕ). IsBeginning done (run_of r start t).text) (sym all) b

-- ---- results

pub on_err : {T E P : Type 0} (r : Result T E) → P → OnErr r P
on_err (Ok x) p = tt
on_err (Err e) p = p

pub either : {T E P Q X : Type 0} (r : Result T E) → OnOk r P → OnErr r Q → (P → X) → (Q → X) → X
either (Ok x) p q f g = f p
either (Err e) p q f g = g q

pub on_err_weaker : {T E P Q : Type 0} (r : Result T E) → (P → Q) → OnErr r P → OnErr r Q
on_err_weaker (Ok x) f p = tt
on_err_weaker (Err e) f p = f p
