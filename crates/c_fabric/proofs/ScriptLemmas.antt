-- A script under way.
use Rattle.std.proofs.Common.{◌≡◌, ◌≢◌, ◌<◌, ◌≤◌, ◌+◌, ℕ, true, false, List, [], ◌∷◌, ◌++◌, ◌∙◌, ◌==◌, length, take, drop, slice_index, get_or, refl, sym, ap, subst, append_assoc, fold, All, arith, Result, Ok, Err}
use Rattle.std.specs.Bool.{⊤}
use Rattle.std.proofs.lemmas.Bool.Decides.{nat_tests}
use Rattle.std.proofs.lemmas.List.{length-take-le, take_all, drop_all, take_more, take-append-drop, nil_from_length}
use Rattle.std.proofs.lemmas.List.Sums.{fold-append}
use Rattle.std.proofs.Math.Seq.{take-append-add, drop-append-add}
use Rattle.hex_text.specs.Lines.{lines_of, said}
use Rattle.hex_text.specs.LineFacts.{no_feed, lines_of-feed, lines_of-last}
use Rattle.hex_text.specs.LineFacts.{cut-at as cut-behind}
use Rattle.c_buffer.specs.declared.outcome.Failure.{Failure}
use Rattle.c_buffer.specs.declared.outcome.Failure.TheVariants.{NoMemory}
use Rattle.c_fabric.specs.SessionView.{SessionView}
use Rattle.c_fabric.specs.Calls.{EventCall}
use Rattle.c_fabric.specs.Scripts.{Script, new_script, line_call, after_call, after_line, goes_on, script_call, IsLeftBy, IsLineCall, IsCutShort}

-- ---- the first line of a text

pub line-feed : (xs : List ℕ) (k : ℕ) → k < length xs → (slice_index xs k == 10) ≡ true → All (λ b. b ≢ 10) (take k xs) → lines_of xs ≡ take (k + 1) xs ∷ lines_of (drop (k + 1) xs)
line-feed xs k lt t h =
    let is : get_or xs k 0 ≡ 10 = grind (arith, nat_tests) in
    let front : take (k + 1) xs ≡ take k xs ++ 10 ∷ [] = take_more xs k 0 lt ∙ ap (λ (b : ℕ). take k xs ++ b ∷ []) is in
    ap lines_of (cut-behind xs k lt t ∙ append_assoc (take k xs) (10 ∷ []) (drop (k + 1) xs))
    ∙ lines_of-feed (take k xs) (drop (k + 1) xs) (no_feed (take k xs) h)
    ∙ ap (λ (line : List ℕ). line ∷ lines_of (drop (k + 1) xs)) (sym front)

pub line-last : (xs : List ℕ) → 1 ≤ length xs → All (λ b. b ≢ 10) xs → lines_of xs ≡ take (length xs) xs ∷ lines_of (drop (length xs) xs)
unfolding lines_of
line-last [] some h = absurd (omega arith)
line-last (b ∷ xs) some h =
    let n = length (b ∷ xs) in
    lines_of-last xs b (no_feed (b ∷ xs) h) ∙ (λ i. sym (take_all n (b ∷ xs) (omega arith)) i ∷ sym (ap lines_of (drop_all n (b ∷ xs) (omega arith))) i)

pub line-next : (rest line behind : List ℕ) (n : ℕ) → lines_of rest ≡ take n rest ∷ lines_of (drop n rest) → line ≡ take n rest → behind ≡ drop n rest → lines_of rest ≡ line ∷ lines_of behind
line-next rest line behind n e front back = e ∙ (λ i. sym front i ∷ lines_of (sym back i))

-- ---- failures

pub other-err : (f : Failure) → (◌≡◌ {A = Result ⊤ Failure} (Err f) (Err NoMemory) → ⊥) → ◌≡◌ {A = Result ℕ Failure} (Err f) (Err NoMemory) → ⊥
other-err f other e = let is : f ≡ NoMemory = cc in other (ap Err is)

pub as-err : (f : Failure) → ◌≡◌ {A = Result ⊤ Failure} (Err f) (Err NoMemory) → ◌≡◌ {A = Result ℕ Failure} (Err f) (Err NoMemory)
as-err f e = let is : f ≡ NoMemory = cc in ap Err is

pub no-err : (n : ℕ) → ◌≡◌ {A = Result ℕ Failure} (Ok n) (Err NoMemory) → ⊥
no-err n e = cc

-- ---- lines that were done

abbrev pub at_work : SessionView → List ℕ → List ℕ → ℕ → Script
at_work s results rest done = record { outcome = Ok tt; session = s; results = results; rest = rest; done = done }

-- a script that was stopped stays so
stopped : (p : Script) (f : Failure) (ls : List (List ℕ)) → p.outcome ≡ Err f → fold after_line p ls ≡ p
stopped p f [] e = refl
stopped p f (l ∷ ls) e = ap (λ (q : Script). fold after_line q ls) (ap (goes_on p l) e) ∙ stopped p f ls e

-- the lines before the rest were done, and left this
pub record Stands (start : SessionView) (buffer text : List ℕ) (s : SessionView) (now : List ℕ) (done size : ℕ) (rest : List ℕ) : Type 0 where
  pub before : List (List ℕ)
  pub lines : lines_of text ≡ before ++ lines_of rest
  pub is : fold after_line (new_script start buffer) before ≡ at_work s (take size now) (drop size now) done
  pub whole : done + length rest ≡ length text
  pub few : size ≤ length now

pub stands-new : (s : SessionView) (buffer text : List ℕ) → Stands s buffer text s buffer 0 0 text
stands-new s buffer text = record { before = []; lines = refl; is = refl; whole = omega arith; few = omega arith }

module _ (start : SessionView) (buffer text : List ℕ) (s : SessionView) (now : List ℕ) (done size : ℕ) (rest line behind : List ℕ) (h : Stands start buffer text s now done size rest) (next : lines_of rest ≡ line ∷ lines_of behind) where
  abbrev pub call : EventCall
  call = line_call s (said line) (drop size now)

  lines-then : lines_of text ≡ (h.before ++ line ∷ []) ++ lines_of behind
  lines-then = h.lines ∙ ap (λ (ls : List (List ℕ)). h.before ++ ls) next ∙ sym (append_assoc h.before (line ∷ []) (lines_of behind))

  -- one line more
  then : fold after_line (new_script start buffer) (h.before ++ line ∷ []) ≡ after_call (at_work s (take size now) (drop size now) done) line call call.outcome
  then = fold-append after_line (new_script start buffer) h.before (line ∷ []) ∙ ap (λ (p : Script). after_line p line) h.is

  -- it was done
  pub stands-then : (s' : SessionView) (now' : List ℕ) (done' size' n : ℕ) → call.outcome ≡ Ok n → s' ≡ call.session → now' ≡ take size now ++ call.buffer → done' ≡ done + length line → size' ≡ size + n
      → size' ≤ length now' → length line + length behind ≡ length rest → Stands start buffer text s' now' done' size' behind
  stands-then s' now' done' size' n ok session buffer' is_done is_size few whole =
      let long : length (take size now) ≡ size = length-take-le size now h.few in
      let front : take size' now' ≡ take size now ++ take n call.buffer =
      (λ i. take (is_size i) (buffer' i)) ∙ ap (λ (k : ℕ). take (k + n) (take size now ++ call.buffer)) (sym long) ∙ take-append-add (take size now) call.buffer n in
      let back : drop size' now' ≡ drop n call.buffer =
      (λ i. drop (is_size i) (buffer' i)) ∙ ap (λ (k : ℕ). drop (k + n) (take size now ++ call.buffer)) (sym long) ∙ drop-append-add (take size now) call.buffer n in
      record {
        before = h.before ++ line ∷ [];
        lines = lines-then;
        is = then ∙ ap (after_call (at_work s (take size now) (drop size now) done) line call) ok
            ∙ (λ i. at_work (sym session i) (sym front i) (sym back i) (sym is_done i));
        whole = let w = h.whole in omega arith;
        few = few;
      }

  abbrev pub halted : Failure → Script
  halted f = record { outcome = Err f; session = call.session; results = take size now; rest = call.buffer; done = done }

  halts : (f : Failure) → call.outcome ≡ Err f → script_call start text buffer ≡ halted f
  halts f err =
      ap (fold after_line (new_script start buffer)) lines-then ∙ fold-append after_line (new_script start buffer) (h.before ++ line ∷ []) (lines_of behind)
      ∙ ap (λ (p : Script). fold after_line p (lines_of behind)) (then ∙ ap (after_call (at_work s (take size now) (drop size now) done) line call) err)
      ∙ stopped (halted f) f (lines_of behind) refl

  -- it stopped the script
  pub stops : (f : Failure) → call.outcome ≡ Err f → (script_call start text buffer).outcome ≡ Err f
  stops f err = ap (λ (p : Script). p.outcome) (halts f err)

  pub stops-left : (s' : SessionView) (now' : List ℕ) (f : Failure) → call.outcome ≡ Err f → s' ≡ call.session → now' ≡ take size now ++ call.buffer → IsLeftBy (script_call start text buffer) s' now' done size
  stops-left s' now' f err session buffer' =
      subst (λ (p : Script). IsLeftBy p s' now' done size) (sym (halts f err)) (record { of_session = session; of_buffer = buffer'; of_done = refl; of_size = sym (length-take-le size now h.few) })

  -- memory is wanted for it
  pub cuts : (s' : SessionView) (now' : List ℕ) → s' ≡ s → now' ≡ now → IsLineCall s (said line) (drop size now) → IsCutShort start text buffer s' now' done size
  cuts s' now' session buffer' wants = record {
    before = h.before;
    line = line;
    after = lines_of behind;
    lines = h.lines ∙ ap (λ (ls : List (List ℕ)). h.before ++ ls) next;
    now = at_work s (take size now) (drop size now) done;
    is = h.is;
    fine = refl;
    left = record { of_session = session; of_buffer = buffer' ∙ sym (take-append-drop size now); of_done = refl; of_size = sym (length-take-le size now h.few) };
    wants = wants;
  }

-- all lines were done
module _ (start : SessionView) (buffer text : List ℕ) (s : SessionView) (now : List ℕ) (done size : ℕ) (rest : List ℕ) (h : Stands start buffer text s now done size rest) (none : length rest ≡ 0) where
  all : script_call start text buffer ≡ at_work s (take size now) (drop size now) done
  unfolding lines_of
  all =
      ap (fold after_line (new_script start buffer)) (h.lines ∙ ap (λ (r : List ℕ). h.before ++ lines_of r) (nil_from_length rest none))
      ∙ fold-append after_line (new_script start buffer) h.before [] ∙ h.is

  pub ends : (script_call start text buffer).outcome ≡ Ok tt
  ends = ap (λ (p : Script). p.outcome) all

  pub ends-left : IsLeftBy (script_call start text buffer) s now done size
  ends-left = subst (λ (p : Script). IsLeftBy p s now done size) (sym all) (record { of_session = refl; of_buffer = sym (take-append-drop size now); of_done = refl; of_size = sym (length-take-le size now h.few) })

  pub ends-whole : done ≡ length text
  ends-whole = let w = h.whole in omega arith
