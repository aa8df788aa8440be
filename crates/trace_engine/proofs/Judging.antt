-- What `check` makes of a text: it is read whole, and then judged.
use Rattle.std.proofs.Common.{◌≡◌, ◌∙◌, ℕ, Bool, true, false, List, [], ◌∷◌, length, refl, sym, ap, fold, cond, Option, Some, None, Result, Ok, Err}
use Rattle.std.specs.Prelude.{nat_lt, codes}
use Rattle.std.specs.Option.{option_or}
use Rattle.history_words.specs.declared.flaws.FlawKind.{FlawKind}
use Rattle.history_words.specs.Claim.{Claim}
use Rattle.history_words.specs.Clocks.{IsClocked, KeepsRealTimeOrder}
use Rattle.history_words.specs.Flaws.{first_flaw, first_clock_flaw, first_flaw_clocked}
use Rattle.history_words.specs.Trace.{Explains}
use Rattle.hex_text.specs.Lines.{lines_of, bare, said}
use Rattle.line_loop.specs.Run.{Run, with_answer, after_line as run_on, after_end, new_run}
use Rattle.record_text.specs.declared.fault.ReadFault.{ReadFault}
use Rattle.trace_text.specs.TraceReaderView.{TraceReaderView, nothing_read, after_line, after_long_line, take_line, read_of}
use Rattle.trace_engine.specs.Check.{is_read, judged, checked, check_responses, out_check, clocked, clocked_responses, out_check_clocked}
use Rattle.trace_engine.proofs.Clocked.{by_first}

-- one line more is read, and nothing written
one_line : (t : Bool) (s : TraceReaderView) (line : List ℕ) → with_answer (new_run s) (cond t (is_read (after_long_line s)) (is_read (after_line s line))) ≡ new_run (cond t (after_long_line s) (after_line s line))
one_line true s line = refl
one_line false s line = refl

all_lines : (ls : List (List ℕ)) (s : TraceReaderView) → fold (run_on check_responses) (new_run s) ls ≡ new_run (fold take_line s ls)
all_lines [] s = refl
all_lines (l ∷ ls) s =
    ap (λ (r : Run TraceReaderView). fold (run_on check_responses) r ls) (one_line (nat_lt 512 (length (bare l))) s (said l))
    ∙ all_lines ls (take_line s l)

-- the run on a text that is read so
abbrev verdict : Result Claim ReadFault → Run TraceReaderView
verdict r = with_answer (new_run nothing_read) (checked r)

run_text : (text : List ℕ) → (out_check text).text ≡ (verdict (read_of text)).text
run_text text = ap (λ (r : Run TraceReaderView). (after_end check_responses r).text) (all_lines (lines_of text) nothing_read)

run_status : (text : List ℕ) → (out_check text).status ≡ (verdict (read_of text)).status
run_status text = ap (λ (r : Run TraceReaderView). (after_end check_responses r).status) (all_lines (lines_of text) nothing_read)

abbrev Clean : Type 0
Clean = (c : Claim) → Explains c → first_flaw c ≡ None

abbrev Explained : Type 0
Explained = (c : Claim) → first_flaw c ≡ None → Explains c

pub says_ok : Clean → (text : List ℕ) (c : Claim) → read_of text ≡ Ok c → Explains c → (out_check text).text ≡ codes "ok\n"
says_ok clean text c read good =
    run_text text
    ∙ ap (λ (r : Result Claim ReadFault). (verdict r).text) read
    ∙ ap (λ (o : Option (FlawKind × ℕ)). (judged o).text) (clean c good)

pub has_status_0 : Clean → (text : List ℕ) (c : Claim) → read_of text ≡ Ok c → Explains c → (out_check text).status ≡ 0
has_status_0 clean text c read good =
    run_status text
    ∙ ap (λ (r : Result Claim ReadFault). (verdict r).status) read
    ∙ ap (λ (o : Option (FlawKind × ℕ)). (with_answer (new_run nothing_read) (judged o)).status) (clean c good)

flawless : (o : Option (FlawKind × ℕ)) → (with_answer (new_run nothing_read) (judged o)).status ≡ 0 → o ≡ None
flawless None e = refl
flawless (Some f) e = absurd (cc e)

judged_well : Explained → (r : Result Claim ReadFault) → (verdict r).status ≡ 0 → (c : Claim) × (r ≡ Ok c) × Explains c
judged_well explained (Err f) e = absurd (cc e)
judged_well explained (Ok c) e = (c, refl, explained c (flawless (first_flaw c) e))

pub only_explained : Explained → (text : List ℕ) → (out_check text).status ≡ 0 → (c : Claim) × (read_of text ≡ Ok c) × Explains c
only_explained explained text e = judged_well explained (read_of text) (sym (run_status text) ∙ e)

-- ---- with the n's asked for

abbrev verdict_clocked : Result Claim ReadFault → Run TraceReaderView
verdict_clocked r = with_answer (new_run nothing_read) (clocked r)

clocked_text : (text : List ℕ) → (out_check_clocked text).text ≡ (verdict_clocked (read_of text)).text
clocked_text text = ap (λ (r : Run TraceReaderView). (after_end clocked_responses r).text) (all_lines (lines_of text) nothing_read)

clocked_status : (text : List ℕ) → (out_check_clocked text).status ≡ (verdict_clocked (read_of text)).status
clocked_status text = ap (λ (r : Run TraceReaderView). (after_end clocked_responses r).status) (all_lines (lines_of text) nothing_read)

-- what the check's laws say of flaws, and of the order in which requests act
pub record Laws : Type 0 where
  pub clean : Clean
  pub explained : Explained
  pub no_clock_flaw : (c : Claim) → Explains c → IsClocked c → first_clock_flaw c ≡ None
  pub clocked : (c : Claim) → Explains c → first_clock_flaw c ≡ None → IsClocked c
  pub ordered : (c : Claim) → Explains c → IsClocked c → KeepsRealTimeOrder c

both_none : Laws → (c : Claim) → Explains c → IsClocked c → first_flaw_clocked c ≡ None
both_none l c good n = by_first c None (l.clean c good) ∙ l.no_clock_flaw c good n

pub clocked_says_ok : Laws → (text : List ℕ) (c : Claim) → read_of text ≡ Ok c → Explains c → IsClocked c → (out_check_clocked text).text ≡ codes "ok\n"
clocked_says_ok l text c read good n =
    clocked_text text
    ∙ ap (λ (r : Result Claim ReadFault). (verdict_clocked r).text) read
    ∙ ap (λ (o : Option (FlawKind × ℕ)). (judged o).text) (both_none l c good n)

pub clocked_has_status_0 : Laws → (text : List ℕ) (c : Claim) → read_of text ≡ Ok c → Explains c → IsClocked c → (out_check_clocked text).status ≡ 0
clocked_has_status_0 l text c read good n =
    clocked_status text
    ∙ ap (λ (r : Result Claim ReadFault). (verdict_clocked r).status) read
    ∙ ap (λ (o : Option (FlawKind × ℕ)). (with_answer (new_run nothing_read) (judged o)).status) (both_none l c good n)

abbrev IsOrdered : Result Claim ReadFault → Type 0
IsOrdered r = (c : Claim) × (r ≡ Ok c) × Explains c × IsClocked c × KeepsRealTimeOrder c

split : (a b : Option (FlawKind × ℕ)) → option_or a b ≡ None → (a ≡ None) × (b ≡ None)
split None b e = (refl, e)
split (Some f) b e = absurd (cc e)

clocked_well : Laws → (r : Result Claim ReadFault) → (verdict_clocked r).status ≡ 0 → IsOrdered r
clocked_well l (Err f) e = absurd (cc e)
clocked_well l (Ok c) e =
    let (first, clock) = split (first_flaw c) (first_clock_flaw c) (flawless (first_flaw_clocked c) e) in
    let good = l.explained c first in
    let n = l.clocked c good clock in
    (c, refl, good, n, l.ordered c good n)

pub only_ordered : Laws → (text : List ℕ) → (out_check_clocked text).status ≡ 0 → IsOrdered (read_of text)
only_ordered l text e = clocked_well l (read_of text) (sym (clocked_status text) ∙ e)
