-- A script whose run ends with status 0 runs through.
use Rattle.std.proofs.Common.{◌≡◌, ℕ, ◌+◌, inl, inr, Bool, true, false, if◌then◌else◌, List, [], ◌∷◌, ◌++◌, length, refl, Option, Some, None}
use Rattle.std.specs.Prelude.{◌⊎◌, ◌-◌, ◌^◌, min, fold, nat_lt, Result, Ok, Err}
use Rattle.history_words.specs.Records.{Record}
use Rattle.fabric_steps.specs.Fabric.{Fabric}
use Rattle.fabric_core.specs.declared.config.Config.{Config}
use Rattle.fabric_core.specs.declared.config.ConfigFault.{ConfigFault}
use Rattle.fabric_steps.specs.declared.fault.Refusal.{Refusal}
use Rattle.fabric_core.specs.Answers.{answer}
use Rattle.fabric_core.specs.Config.{IsNewWith}
use Rattle.fabric_core.specs.Kept.{records_of}
use Rattle.fabric_steps.specs.Event.{Event, Seen}
use Rattle.fabric_core.specs.New.{new_fabric, config_fault}
use Rattle.fabric_settle.specs.Rounds.{settlement}
use Rattle.fabric_settle.specs.Keeping.{with_record}
use Rattle.operation_text.specs.Words.{words}
use Rattle.script_text.specs.declared.line.Line.{Line}
use Rattle.script_text.specs.declared.line.Line.TheVariants as lines
use Rattle.script_text.specs.Forms.{line_of}
use Rattle.script_text.specs.Names.{refusal_text}
use Rattle.hex_text.specs.Lines.{lines_of, bare, said, is_skipped}
use Rattle.line_loop.specs.Run.{Answer, Run, with_answer, after_line, new_run}
use Rattle.step_engine.specs.Options.{traced}
use Rattle.step_engine.specs.Script.{script_of, Progress, progress, LinesDo, RunsThrough}
use Rattle.step_engine.specs.Step.{StepperView, nothing, counted, made, answered, refused, by_line, step_long_line, step_responses, out_step_with}
use Rattle.step_laws.proofs.Kept.{Laws, IsGood, good-new, happens-said, good-after, good-settled}
use Rattle.step_laws.proofs.Made.{new-is}
use Rattle.step_laws.proofs.Lines.{IsSaid, is-said}

-- ---- the run so far

abbrev at : Bool → Bool → Option Fabric → List Record → ℕ → StepperView
at keeps echoes o rs n = record { options = traced keeps echoes; fabric = o; records = rs; lines = n; has_ended = false }

abbrev run_at : Bool → Bool → Option Fabric → List Record → ℕ → Run StepperView
run_at keeps echoes o rs n = new_run (at keeps echoes o rs n)

abbrev runs_on : Run StepperView → List (List ℕ) → Run StepperView
runs_on run ls = fold (after_line step_responses) run ls

-- the number of the next line
abbrev next : ℕ → ℕ
next n = min (n + 1) (2 ^ 64 - 1)

-- ---- status 0

without : (b : Bool) (n : ℕ) → (if b then 1 else n) ≡ 0 → (b ≡ false) × (n ≡ 0)
without true n e = absurd cc
without false n e = (refl, e)

was_zero : (ls : List (List ℕ)) (run : Run StepperView) → (runs_on run ls).status ≡ 0 → run.status ≡ 0
was_zero [] run e = e
was_zero (l ∷ ls) run e = (without _ run.status (was_zero ls (after_line step_responses run l) e)).1

no_fault : (ls : List (List ℕ)) (run : Run StepperView) (a : Answer StepperView) → (runs_on (with_answer run a) ls).status ≡ 0 → a.is_fault ≡ false
no_fault ls run a e = (without a.is_fault run.status (was_zero ls (with_answer run a) e)).0

refused_is_told : (keeps echoes : Bool) (o : Option Fabric) (rs : List Record) (n : ℕ) (line name : List ℕ) → (refused (at keeps echoes o rs n) line name).is_fault ≡ true
refused_is_told true echoes o rs n line name = refl
refused_is_told false echoes o rs n line name = refl

not_both : (b : Bool) → b ≡ true → b ≡ false → ⊥
not_both b e f = cc

-- ---- one line, by its tests and what it says

abbrev by_tests : Bool → Bool → List ℕ → Option Line → StepperView → Answer StepperView
by_tests long skipped line l s = if long then step_long_line s else (if s.has_ended then nothing s else (if skipped then nothing (counted s) else by_line s line l))

abbrev put : Bool → Bool → Option Line → List (Option Line) → List (Option Line)
put long skipped l rest = if long then None ∷ rest else (if skipped then rest else l ∷ rest)

abbrev on_from : Bool → Bool → List ℕ → Option Line → Run StepperView → List (List ℕ) → Run StepperView
on_from long skipped line l run ls = runs_on (with_answer run (by_tests long skipped line l run.state)) ls

abbrev Says : Option Line → Type 0
Says l = (event : Event) → l ≡ Some (lines.Event event) → IsSaid event

-- ---- the lines after the first

-- each line does what it says
pub record GoesThrough (keeps : Bool) (f : Fabric) (rs : List Record) (ls : List (Option Line)) : Type 0 where
  pub last : Progress
  pub does : LinesDo keeps (progress f rs 0) ls last
  pub good : IsGood last.fabric last.records

abbrev Later : Bool → Bool → List (List ℕ) → Type 0
Later keeps echoes ls = (f : Fabric) (rs : List Record) (n : ℕ) → IsGood f rs → (runs_on (run_at keeps echoes (Some f) rs n) ls).status ≡ 0 → GoesThrough keeps f rs (script_of ls)

event-goes : Laws → (keeps echoes : Bool) (line : List ℕ) (event : Event) (ls : List (List ℕ)) → Later keeps echoes ls → (f : Fabric) (rs : List Record) (n : ℕ) → IsGood f rs → IsSaid event
    → (r : Result (Seen × Fabric) Refusal) → answer f event ≡ r
    → (runs_on (with_answer (run_at keeps echoes (Some f) rs n) (answered (at keeps echoes (Some f) rs n) line event (length f.memory.entries) r)) ls).status ≡ 0
    → GoesThrough keeps f rs (Some (lines.Event event) ∷ script_of ls)
event-goes l keeps echoes line event ls more f rs n good is (Ok p) q e =
    let happens = happens-said l f p.1 rs event p.0 good is q in
    let all = more p.1 (rs ++ records_of event p.0 (length f.memory.entries)) (next n) (good-after l f p.1 rs event p.0 good is happens) e in
    record {
      last = all.last;
      does = (progress p.1 (rs ++ records_of event p.0 (length f.memory.entries)) 0, inl (record { recorded = record { what = p.0; happens = happens; now = refl }; status = refl }), all.does);
      good = all.good;
    }
event-goes l keeps echoes line event ls more f rs n good is (Err r) q e =
    absurd (not_both _ (refused_is_told keeps echoes (Some f) rs n line (refusal_text r)) (no_fault ls (run_at keeps echoes (Some f) rs n) (refused (at keeps echoes (Some f) rs n) line (refusal_text r)) e))

later-by : Laws → (keeps echoes : Bool) (long skipped : Bool) (line : List ℕ) (l : Option Line) → Says l → (ls : List (List ℕ)) → Later keeps echoes ls → (f : Fabric) (rs : List Record) (n : ℕ) → IsGood f rs
    → (on_from long skipped line l (run_at keeps echoes (Some f) rs n) ls).status ≡ 0 → GoesThrough keeps f rs (put long skipped l (script_of ls))
later-by w keeps echoes true skipped line l is ls more f rs n good e =
    absurd (not_both true refl (no_fault ls (run_at keeps echoes (Some f) rs n) (step_long_line (at keeps echoes (Some f) rs n)) e))
later-by w keeps echoes false true line l is ls more f rs n good e = more f rs (next n) good e
later-by w keeps echoes false false line None is ls more f rs n good e =
    absurd (not_both true refl (no_fault ls (run_at keeps echoes (Some f) rs n) (by_line (at keeps echoes (Some f) rs n) line None) e))
later-by w keeps echoes false false line (Some (lines.Fabric c)) is ls more f rs n good e =
    absurd (not_both true refl (no_fault ls (run_at keeps echoes (Some f) rs n) (by_line (at keeps echoes (Some f) rs n) line (Some (lines.Fabric c))) e))
later-by w keeps echoes false false line (Some (lines.Event event)) is ls more f rs n good e =
    event-goes w keeps echoes line event ls more f rs n good (is event refl) (answer f event) refl e
later-by w keeps echoes false false line (Some lines.Settle) is ls more f rs n good e =
    let told = fold with_record rs (settlement f).happened in
    let all = more (settlement f).fabric told (next n) (good-settled w f rs good) e in
    record {
      last = all.last;
      does = (
        progress (settlement f).fabric told 0,
        record { reached = record { happened = (settlement f).happened; led = w.settles f good.sound; now = λ lossless. refl }; fabric = refl; records = refl; status = refl },
        all.does,
      );
      good = all.good;
    }

says : (line : List ℕ) → Says (line_of (words (said line)))
says line event e = is-said (words (said line)) event e

later : Laws → (keeps echoes : Bool) (ls : List (List ℕ)) → Later keeps echoes ls
later w keeps echoes [] f rs n good e = record { last = progress f rs 0; does = refl; good = good }
later w keeps echoes (line ∷ ls) f rs n good e =
    later-by w keeps echoes (nat_lt 512 (length (bare line))) (is_skipped (said line)) (said line) (line_of (words (said line))) (says line) ls (later w keeps echoes ls) f rs n good e

-- ---- the first line

-- the first line makes a fabric, and those after it leave this
pub record Begins (keeps : Bool) (ls : List (Option Line)) : Type 0 where
  pub config : Config
  pub after : List (Option Line)
  pub says : ls ≡ Some (lines.Fabric config) ∷ after
  pub is_new : IsNewWith config (new_fabric config)
  pub through : GoesThrough keeps (new_fabric config) [] after

abbrev First : Bool → Bool → List (List ℕ) → Type 0
First keeps echoes ls = (n : ℕ) → (runs_on (run_at keeps echoes None [] n) ls).status ≡ 0 → (script_of ls ≡ []) ⊎ Begins keeps (script_of ls)

fabric-begins : Laws → (keeps echoes : Bool) (c : Config) (ls : List (List ℕ)) (n : ℕ) (fault : Option ConfigFault) → config_fault c ≡ fault
    → (runs_on (with_answer (run_at keeps echoes None [] n) (made (at keeps echoes None [] n) c fault)) ls).status ≡ 0 → Begins keeps (Some (lines.Fabric c) ∷ script_of ls)
fabric-begins w keeps echoes c ls n (Some x) q e =
    absurd (not_both true refl (no_fault ls (run_at keeps echoes None [] n) (made (at keeps echoes None [] n) c (Some x)) e))
fabric-begins w keeps echoes c ls n None q e =
    let is_new = new-is c q in
    record { config = c; after = script_of ls; says = refl; is_new = is_new; through = later w keeps echoes ls (new_fabric c) [] (next n) (good-new w c (new_fabric c) is_new) e }

first-by : Laws → (keeps echoes : Bool) (long skipped : Bool) (line : List ℕ) (l : Option Line) (ls : List (List ℕ)) → First keeps echoes ls → (n : ℕ)
    → (on_from long skipped line l (run_at keeps echoes None [] n) ls).status ≡ 0 → (put long skipped l (script_of ls) ≡ []) ⊎ Begins keeps (put long skipped l (script_of ls))
first-by w keeps echoes true skipped line l ls more n e =
    absurd (not_both true refl (no_fault ls (run_at keeps echoes None [] n) (step_long_line (at keeps echoes None [] n)) e))
first-by w keeps echoes false true line l ls more n e = more (next n) e
first-by w keeps echoes false false line None ls more n e =
    absurd (not_both true refl (no_fault ls (run_at keeps echoes None [] n) (by_line (at keeps echoes None [] n) line None) e))
first-by w keeps echoes false false line (Some (lines.Event event)) ls more n e =
    absurd (not_both true refl (no_fault ls (run_at keeps echoes None [] n) (by_line (at keeps echoes None [] n) line (Some (lines.Event event))) e))
first-by w keeps echoes false false line (Some lines.Settle) ls more n e =
    absurd (not_both true refl (no_fault ls (run_at keeps echoes None [] n) (by_line (at keeps echoes None [] n) line (Some lines.Settle)) e))
first-by w keeps echoes false false line (Some (lines.Fabric c)) ls more n e = inr (fabric-begins w keeps echoes c ls n (config_fault c) refl e)

first : Laws → (keeps echoes : Bool) (ls : List (List ℕ)) → First keeps echoes ls
first w keeps echoes [] n e = inl refl
first w keeps echoes (line ∷ ls) n e =
    first-by w keeps echoes (nat_lt 512 (length (bare line))) (is_skipped (said line)) (said line) (line_of (words (said line))) ls (first w keeps echoes ls) n e

-- ---- the whole script

-- it runs through, and what it leaves is good
pub record RunsWell (keeps : Bool) (input : List ℕ) : Type 0 where
  pub last : Progress
  pub runs : RunsThrough keeps input last
  pub good : IsGood last.fabric last.records

runs-well : (keeps : Bool) (input : List ℕ) → (script_of (lines_of input) ≡ [] → ⊥) → (script_of (lines_of input) ≡ []) ⊎ Begins keeps (script_of (lines_of input)) → RunsWell keeps input
runs-well keeps input some (inl none) = absurd (some none)
runs-well keeps input some (inr b) = record {
  last = b.through.last;
  runs = record { config = b.config; fabric = new_fabric b.config; after = b.after; says = b.says; is_new = b.is_new; goes_on = b.through.does };
  good = b.through.good;
}

pub through : Laws → (keeps echoes : Bool) (input : List ℕ) → (script_of (lines_of input) ≡ [] → ⊥) → (out_step_with (traced keeps echoes) input).status ≡ 0 → RunsWell keeps input
through w keeps echoes input some e = runs-well keeps input some (first w keeps echoes (lines_of input) 0 e)
