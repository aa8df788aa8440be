-- What is kept of the lines of an input, as it is read.
use Rattle.std.proofs.Common.{◌≡◌, ◌≢◌, ◌<◌, ◌≤◌, ◌-◌, ◌+◌, ℕ, min, Bool, true, false, if◌then◌else◌, List, [], ◌∷◌, ◌++◌, ◌∙◌, length, take, drop, map, refl, ap, sym, append_assoc, arith, nat_lt, inl, inr, All, length-append, get_or, slice_index, ◌==◌, subst}
use Rattle.std.proofs.Math.Seq.{take-append-add}
use Rattle.std.proofs.lemmas.Bool.{cases_lt}
use Rattle.std.proofs.lemmas.Bool.Decides.{nat_tests}
use Rattle.std.proofs.lemmas.Grind.{common_steps}
use Rattle.std.proofs.lemmas.List.{append-nil, get_or-drop, length-drop, map-append, take-append-le, take_all, take_more, length-take-le}
use Rattle.std.proofs.lemmas.List.Elements.{All-nil, All-append, All-take}
use Rattle.std.specs.Io.BufRead.{strip_last}
use Rattle.memchr.specs.Find.{Nowhere, Passes, is_byte}
use Rattle.hex_text.specs.LineFacts.{no_feed, lines_of-feed, none-at-all}
use Rattle.hex_text.specs.Lines.{lines_of, is_skipped}
use Rattle.search_engine.specs.Kept.{AreKept, KeepsUpTo, KeptLine, as_read, as_kept, kept_of, ended}

-- as many bytes as there is room for fill the line
pub filled : (line bytes : List ℕ) (n : ℕ) → length line ≤ 513 → n ≡ min (length bytes) (513 - length line) → line ++ take n bytes ≡ take 513 (line ++ bytes)
filled line bytes n h e = elim (cases_lt (513 - length line) (length bytes)) [
  | inl more ↦
      let room : n ≡ 513 - length line = omega arith in
      let whole : 513 ≡ length line + n = omega arith in
      sym (take-append-add line bytes n) ∙ ap (λ (k : ℕ). take k (line ++ bytes)) (sym whole)
  | inr few ↦
      let all : n ≡ length bytes = omega arith in
      ap (λ (t : List ℕ). line ++ t) (take_all n bytes (omega arith))
      ∙ sym (take_all 513 (line ++ bytes) (omega (arith, length-append line bytes)))
]

pub fits : (line bytes : List ℕ) (n : ℕ) → length line ≤ 513 → n ≡ min (length bytes) (513 - length line) → length line + length (take n bytes) ≤ 513
fits line bytes n h e = let few : n ≤ length bytes = omega arith in omega (arith, length-take-le n bytes few)

-- ---- what is kept of a line

-- a test for below
ltb-of : (a b : ℕ) → a < b → nat_lt a b ≡ true
ltb-of a b h = grind (arith, nat_tests)

-- what is kept of as much as is kept
pub kept-twice : (xs : List ℕ) → kept_of (take 513 xs) ≡ kept_of xs
kept-twice xs = elim (cases_lt 512 (length xs)) [
  | inl long ↦
      let len : length (take 513 xs) ≡ 513 = length-take-le 513 xs long in
      rw (len, ltb-of 512 (length xs) long) (take_all 513 (take 513 xs) (omega arith))
  | inr short ↦ ap kept_of (take_all 513 xs (omega arith))
]

-- it has no line feed that the line hasn't
kept-feedless : (xs : List ℕ) → All (λ b. b ≢ 10) xs → All (λ b. b ≢ 10) (kept_of xs)
kept-feedless xs h = by (nat_lt 512 (length xs)) (is_skipped (strip_last 13 xs))
  where
    by : (long skipped : Bool) → All (λ b. b ≢ 10) (if long then take 513 xs else (if skipped then [] else xs))
    by true skipped = All-take (λ b. b ≢ 10) 513 xs h
    by false true = All-nil (λ b. b ≢ 10)
    by false false = h

-- what is kept of a line that goes on, from what was kept of it
kept-more : (xs ys : List ℕ) → take 513 (take 513 xs ++ ys) ≡ take 513 (xs ++ ys)
kept-more xs ys = elim (cases_lt 513 (length xs)) [
  | inl long ↦
      let len : length (take 513 xs) ≡ 513 = length-take-le 513 xs (omega arith) in
      rw (take-append-le 513 (take 513 xs) ys (omega arith), take_all 513 (take 513 xs) (omega arith)) (sym (take-append-le 513 xs ys (omega arith)))
  | inr short ↦ rw (take_all 513 xs short) refl
]

-- ---- in the middle of an input

-- nothing was read
pub keeps-nothing : KeepsUpTo [] [] []
keeps-nothing = record {
  ended_lines = [];
  last = [];
  one_line = All-nil (λ b. b ≢ 10);
  unfinished = refl;
  lines = λ more. refl;
  kept = λ more. refl;
}

-- more of the line that goes on
pub keeps-more : (read text line line' more : List ℕ) → KeepsUpTo read text line → All (λ b. b ≢ 10) more → line' ≡ take 513 (line ++ more)
    → KeepsUpTo (read ++ more) text line'
keeps-more read text line line' more s one e = record {
  ended_lines = s.ended_lines;
  last = s.last ++ more;
  one_line = All-append (λ b. b ≢ 10) s.last more s.one_line one;
  unfinished = e ∙ ap (λ (t : List ℕ). take 513 (t ++ more)) s.unfinished ∙ kept-more s.last more;
  lines = λ rest. rw (append_assoc read more rest, append_assoc s.last more rest) (s.lines (more ++ rest));
  kept = s.kept;
}

-- what is kept of the line from what was kept of its beginning
same-line : (line last tail : List ℕ) → line ≡ take 513 last → kept_of (line ++ tail) ≡ kept_of (last ++ tail)
same-line line last tail e =
    ap (λ (t : List ℕ). kept_of (t ++ tail)) e ∙ sym (kept-twice (take 513 last ++ tail)) ∙ ap kept_of (kept-more last tail) ∙ kept-twice (last ++ tail)

-- lines more
more-lines : (f : KeptLine → List ℕ) (ls ms : List KeptLine) (rest : List (List ℕ)) → map f ls ++ (map f ms ++ rest) ≡ map f (ls ++ ms) ++ rest
more-lines f ls ms rest = sym (append_assoc (map f ls) (map f ms) rest) ∙ ap (λ (ks : List (List ℕ)). ks ++ rest) (sym (map-append f ls ms))

-- the end of a line
pub keeps-feed : (read text text' line tail : List ℕ) → KeepsUpTo read text line → All (λ b. b ≢ 10) tail → text' ≡ text ++ ended (kept_of (line ++ tail))
    → KeepsUpTo (read ++ (tail ++ 10 ∷ [])) text' []
keeps-feed read text text' line tail s one e = record {
  ended_lines = s.ended_lines ++ cut ∷ [];
  last = [];
  one_line = All-nil (λ b. b ≢ 10);
  unfinished = refl;
  lines = λ more.
      let regroup : (read ++ (tail ++ 10 ∷ [])) ++ more ≡ read ++ (tail ++ 10 ∷ more) =
      append_assoc read (tail ++ 10 ∷ []) more ∙ ap (λ (t : List ℕ). read ++ t) (append_assoc tail (10 ∷ []) more) in
      let line_is : s.last ++ (tail ++ 10 ∷ more) ≡ (s.last ++ tail) ++ 10 ∷ more = sym (append_assoc s.last tail (10 ∷ more)) in
      ap lines_of regroup ∙ s.lines (tail ++ 10 ∷ more)
      ∙ ap (λ (ls : List (List ℕ)). map as_read s.ended_lines ++ ls) (ap lines_of line_is ∙ lines_of-feed (s.last ++ tail) more (no_feed (s.last ++ tail) whole_line))
      ∙ more-lines as_read s.ended_lines (cut ∷ []) (lines_of more);
  kept = λ more.
      let kept = kept_of (s.last ++ tail) in
      let is : text' ≡ text ++ ended kept = e ∙ ap (λ (t : List ℕ). text ++ ended t) (same-line line s.last tail s.unfinished) in
      let regroup : text' ++ more ≡ text ++ (kept ++ 10 ∷ more) =
      ap (λ (t : List ℕ). t ++ more) is ∙ append_assoc text (ended kept) more ∙ ap (λ (t : List ℕ). text ++ t) (append_assoc kept (10 ∷ []) more) in
      ap lines_of regroup ∙ s.kept (kept ++ 10 ∷ more)
      ∙ ap (λ (ls : List (List ℕ)). map as_kept s.ended_lines ++ ls) (lines_of-feed kept more (no_feed kept (kept-feedless (s.last ++ tail) whole_line)))
      ∙ more-lines as_kept s.ended_lines (cut ∷ []) (lines_of more);
}
  where
    whole_line : All (λ b. b ≢ 10) (s.last ++ tail)
    whole_line = All-append (λ b. b ≢ 10) s.last tail s.one_line one

    cut : KeptLine
    cut = record { line = s.last ++ tail; kept = kept_of (s.last ++ tail); is = inr refl }

-- the end of the input
pub keeps-end : (read text text' line : List ℕ) → KeepsUpTo read text line → text' ≡ text ++ line → AreKept read text'
keeps-end read text text' line s e = record {
  ended_lines = s.ended_lines;
  last = s.last;
  one_line = s.one_line;
  lines = ap lines_of (sym (append-nil read)) ∙ s.lines [] ∙ ap (λ (t : List ℕ). map as_read s.ended_lines ++ lines_of t) (append-nil s.last);
  kept = ap lines_of e ∙ s.kept line ∙ ap (λ (t : List ℕ). map as_kept s.ended_lines ++ lines_of t) s.unfinished;
}

-- ---- lines that are kept whole

abbrev all-of : List ℕ → KeptLine
all-of line = record { line = line; kept = line; is = inl refl }

-- the lines of bytes that a line feed ends, whatever is behind it
record WholeLines (bytes : List ℕ) : Type 0 where
  pub first : List ℕ
  pub others : List KeptLine
  pub lines : (more : List ℕ) → lines_of (bytes ++ 10 ∷ more) ≡ ended first ∷ (map as_read others ++ lines_of more)
  pub same : map as_read others ≡ map as_kept others

longer : (b : ℕ) (bytes : List ℕ) (t : Bool) → (b == 10) ≡ t → WholeLines bytes → WholeLines (b ∷ bytes)
unfolding lines_of
longer b bytes true e w = record {
  first = [];
  others = all-of w.first ∷ w.others;
  lines = λ more. rw (e, w.lines more) refl;
  same = ap (λ (ls : List (List ℕ)). ended w.first ∷ ls) w.same;
}
longer b bytes false e w = record {
  first = b ∷ w.first;
  others = w.others;
  lines = λ more. rw (e, w.lines more) refl;
  same = w.same;
}

whole-lines : (bytes : List ℕ) → WholeLines bytes
unfolding lines_of
whole-lines [] = record { first = []; others = []; lines = λ more. refl; same = refl }
whole-lines (b ∷ bytes) = longer b bytes (b == 10) refl (whole-lines bytes)

-- nothing is kept of nothing alone
no_line : (xs : List ℕ) → take 513 xs ≡ [] → xs ≡ []
no_line [] e = refl
no_line (x ∷ xs) e = cc

-- lines that are kept whole, where no line goes on
pub keeps-whole : (read text text' line bytes : List ℕ) → KeepsUpTo read text line → line ≡ [] → text' ≡ text ++ (bytes ++ 10 ∷ [])
    → KeepsUpTo (read ++ (bytes ++ 10 ∷ [])) text' []
keeps-whole read text text' line bytes s none e = record {
  ended_lines = s.ended_lines ++ new;
  last = [];
  one_line = All-nil (λ b. b ≢ 10);
  unfinished = refl;
  lines = λ more.
      ap lines_of (regroup read more) ∙ s.lines (bytes ++ 10 ∷ more)
      ∙ ap (λ (t : List ℕ). map as_read s.ended_lines ++ lines_of (t ++ (bytes ++ 10 ∷ more))) (no_line s.last (sym s.unfinished ∙ none))
      ∙ ap (λ (ls : List (List ℕ)). map as_read s.ended_lines ++ ls) (w.lines more)
      ∙ more-lines as_read s.ended_lines new (lines_of more);
  kept = λ more.
      ap (λ (t : List ℕ). lines_of (t ++ more)) e ∙ ap lines_of (regroup text more) ∙ s.kept (bytes ++ 10 ∷ more)
      ∙ ap (λ (ls : List (List ℕ)). map as_kept s.ended_lines ++ ls)
      (w.lines more ∙ ap (λ (ls : List (List ℕ)). ended w.first ∷ (ls ++ lines_of more)) w.same)
      ∙ more-lines as_kept s.ended_lines new (lines_of more);
}
  where
    w : WholeLines bytes
    w = whole-lines bytes

    new : List KeptLine
    new = all-of w.first ∷ w.others

    regroup : (xs more : List ℕ) → (xs ++ (bytes ++ 10 ∷ [])) ++ more ≡ xs ++ (bytes ++ 10 ∷ more)
    regroup xs more = append_assoc xs (bytes ++ 10 ∷ []) more ∙ ap (λ (t : List ℕ). xs ++ t) (append_assoc bytes (10 ∷ []) more)

-- the bytes up to a line feed, and it
pub up-to : (xs : List ℕ) (k : ℕ) → k < length xs → (slice_index xs k == 10) ≡ true → take (k + 1) xs ≡ take k xs ++ 10 ∷ []
up-to xs k lt t =
    let is : get_or xs k 0 ≡ 10 = grind (arith, nat_tests) in
    take_more xs k 0 lt ∙ ap (λ (b : ℕ). take k xs ++ b ∷ []) is

-- no line feed behind the last
pub none-after : (xs : List ℕ) (k : ℕ) → k < length xs → Nowhere (Passes (is_byte 10) xs) (k + 1) (length xs) → All (λ b. b ≢ 10) (drop (k + 1) xs)
none-after xs k lt h = none-at-all (drop (k + 1) xs) (λ i low high t.
    let len : length (drop (k + 1) xs) ≡ length xs - (k + 1) = length-drop (k + 1) xs in
    h (k + 1 + i) (omega arith) (omega arith) (subst (λ (b : ℕ). (b == 10) ≡ true) (get_or-drop (k + 1) xs i 0) t))

-- all that is left behind a place
pub left : (xs : List ℕ) (n : ℕ) → take (length xs - n) (drop n xs) ≡ drop n xs
left xs n = grind (arith, common_steps)
