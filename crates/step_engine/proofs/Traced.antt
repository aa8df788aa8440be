-- The run of a script to its end.
use Rattle.std.proofs.Common.{◌≡◌, ◌∙◌, ◌++◌, ◌+◌, inl, inr, ℕ, Bool, true, false, List, [], ◌∷◌, length, refl, sym, ap, ap₂, subst, Option, Some, None, Result, Err, if◌then◌else◌}
use Rattle.std.specs.Prelude.{◌-◌, ◌^◌, min, fold, map, nat_lt}
use Rattle.std.proofs.lemmas.List.{append-nil, append_assoc}
use Rattle.history_words.specs.Records.{Record}
use Rattle.history_words.specs.Clocks.{IsClocked}
use Rattle.history_words.specs.Trace.{Explains}
use Rattle.fabric_steps.specs.Fabric.{Fabric, whole_of}
use Rattle.fabric_steps.specs.Whole.{Whole, memory_of}
use Rattle.fabric_steps.specs.Sound.{Sound}
use Rattle.fabric_steps.specs.Steps.{Step, Run, stays, goes}
use Rattle.fabric_steps.specs.Trace.{Belongs}
use Rattle.fabric_core.specs.declared.config.Config.{Config}
use Rattle.fabric_core.specs.declared.config.ConfigFault.{ConfigFault}
use Rattle.fabric_steps.specs.Event.{Event, Seen}
use Rattle.fabric_steps.specs.declared.fault.Refusal.{Refusal}
use Rattle.fabric_core.specs.Config.{IsNewWith}
use Rattle.fabric_core.specs.Kept.{IsSoundFabric, records_of}
use Rattle.fabric_core.specs.Steps.{Happens, Refused}
use Rattle.fabric_core.specs.Runs.{Runs}
use Rattle.fabric_core.specs.Answers.{answer}
use Rattle.fabric_settle.specs.Happenings.{Happening, Leads}
use Rattle.fabric_settle.specs.Keeping.{with_record}
use Rattle.fabric_settle.specs.Rounds.{Settling, settlement}
use Rattle.fabric_steps.specs.Faults.{IsTold}
use Rattle.fabric_core.specs.New.{new_fabric, config_fault}
use Rattle.operation_text.specs.Words.{words}
use Rattle.trace_text.specs.Texts.{trace_text}
use Rattle.script_text.specs.declared.line.Line.{Line}
use Rattle.script_text.specs.declared.line.Line.TheVariants as lines
use Rattle.script_text.specs.Forms.{line_of}
use Rattle.script_text.specs.Names.{refusal_text}
use Rattle.script_text.specs.Texts.{seen_text}
use Rattle.hex_text.specs.Lines.{lines_of, bare, said, is_skipped}
use Rattle.line_loop.specs.Run.{Answer, Run as Output, with_answer, after_line, after_end, new_run}
use Rattle.step_engine.specs.Script.{script_of, event_line, IsScript, Progress, progress, LineDoes, LinesDo, RunsThrough}
use Rattle.step_engine.specs.declared.options.StepOptions.{StepOptions}
use Rattle.step_engine.specs.Options.{traced}
use Rattle.step_engine.specs.Step.{StepperView, nothing, counted, shown, refused_line, refused_by, made, recorded, answered, recorded_all, settled_lines, settles_telling, settles_traced, by_line, step_long_line, step_responses, claim_with, out_step_with}

-- ---- the history explains the records

pub record Laws : Type 0 where
  pub sound : (c : Config) (f : Fabric) → IsNewWith c f → IsSoundFabric f
  pub empty : (c : Config) (f : Fabric) → IsNewWith c f → Belongs (whole_of f) []
  pub step : (f f' : Fabric) (event : Event) (what : Seen) → IsSoundFabric f → Happens f event what f' → Step (whole_of f) (whole_of f') (records_of event what (length f.memory.entries))
  pub keeps : (f f' : Fabric) (event : Event) (what : Seen) → IsSoundFabric f → Happens f event what f' → IsSoundFabric f'
  pub run : (p p' : Whole) (rs ss : List Record) → Sound p → Belongs p rs → Run p p' ss → Belongs p' (rs ++ ss)
  pub explained : (p : Whole) (rs : List Record) → Sound p → Belongs p rs → Explains (record { memory = memory_of p; records = rs })
  pub clocked : (p : Whole) (rs : List Record) → Belongs p rs → IsClocked (record { memory = memory_of p; records = rs })

belongs : Laws → (events : List Event) (f f' : Fabric) (before rs : List Record) → IsSoundFabric f → Belongs (whole_of f) before → Runs f events rs f'
    → IsSoundFabric f' × Belongs (whole_of f') (before ++ rs)
belongs l [] f f' before rs s b r =
    (subst IsSoundFabric (sym r.1) s, subst (λ (g : Fabric). Belongs (whole_of g) (before ++ rs)) (sym r.1) (subst (Belongs (whole_of f)) (sym (ap (λ (x : List Record). before ++ x) r.0 ∙ append-nil before)) b))
belongs l (event ∷ events) f f' before rs s b r =
    let what = r.0 in
    let next = r.1 in
    let later = r.2 in
    let first = records_of event what (length f.memory.entries) in
    let kept = l.keeps f next event what s r.3 in
    let more = l.run (whole_of f) (whole_of next) before first s.sound b (goes stays (l.step f next event what s r.3)) in
    let all = belongs l events next f' (before ++ first) later kept more r.4 in
    (all.0, subst (Belongs (whole_of f')) (append_assoc before first later ∙ ap (λ (x : List Record). before ++ x) (sym r.5)) all.1)

belongs_led : Laws → (hs : List Happening) (f f' : Fabric) (rs : List Record) → IsSoundFabric f → Belongs (whole_of f) rs → Leads Happens f hs f'
    → IsSoundFabric f' × Belongs (whole_of f') (fold with_record rs hs)
belongs_led l [] f f' rs s b r = (subst IsSoundFabric (sym r) s, subst (λ (g : Fabric). Belongs (whole_of g) rs) (sym r) b)
belongs_led l (h ∷ hs) f f' rs s b r =
    let happens : Happens f h.event h.what h.after = subst (λ (g : Fabric). Happens g h.event h.what h.after) r.0 r.1 in
    let more : Belongs (whole_of h.after) (rs ++ records_of h.event h.what (length f.memory.entries)) =
    l.run (whole_of f) (whole_of h.after) rs (records_of h.event h.what (length f.memory.entries)) s.sound b (goes stays (l.step f h.after h.event h.what s happens)) in
    belongs_led l hs h.after f' (with_record rs h) (l.keeps f h.after h.event h.what s happens)
    (subst (λ (g : Fabric). Belongs (whole_of h.after) (rs ++ records_of h.event h.what (length g.memory.entries))) (sym r.0) more) r.2

-- ---- what the lines do

-- the fabric is sound, and the records belong to it
abbrev IsRight : Progress → Type 0
IsRight p = IsSoundFabric p.fabric × Belongs (whole_of p.fabric) p.records

right_at : (p p' : Progress) → p' ≡ p → IsRight p → IsRight p'
right_at p p' e r = subst IsRight (sym e) r

right_after : Laws → (keeps : Bool) (p : Progress) (l : Option Line) (p' : Progress) → LineDoes keeps p l p' → IsRight p → IsRight p'
right_after l keeps p None p' h r = absurd h
right_after l keeps p (Some (lines.Fabric c)) p' h r = absurd h
right_after l keeps p (Some (lines.Event event)) p' (inl h) r =
    let g = h.recorded in
    let more = l.run (whole_of p.fabric) (whole_of p'.fabric) p.records (records_of event g.what (length p.fabric.memory.entries)) r.0.sound r.1
    (goes stays (l.step p.fabric p'.fabric event g.what r.0 g.happens)) in
    (l.keeps p.fabric p'.fabric event g.what r.0 g.happens, subst (Belongs (whole_of p'.fabric)) (sym g.now) more)
right_after l keeps p (Some (lines.Event event)) p' (inr h) r = subst IsRight (sym h.1.now) r
right_after l keeps p (Some lines.Settle) p' h r =
    let g = h.reached in
    let all = belongs_led l g.happened p.fabric p'.fabric p.records r.0 r.1 g.led in
    (all.0, subst (Belongs (whole_of p'.fabric)) (sym (g.now (λ event lost. lost))) all.1)

right_later : Laws → (keeps : Bool) (ls : List (Option Line)) (p p' : Progress) → LinesDo keeps p ls p' → IsRight p → IsRight p'
right_later l keeps [] p p' h r = subst IsRight (sym h) r
right_later l keeps (x ∷ xs) p p' h r = right_later l keeps xs h.0 p' h.2 (right_after l keeps p x h.0 h.1 r)

new_right : Laws → (c : Config) (f : Fabric) → IsNewWith c f → IsRight (progress f [] 0)
new_right l c f n = (l.sound c f n, l.empty c f n)

pub is_explained : Laws → (keeps : Bool) (input : List ℕ) (p : Progress) → RunsThrough keeps input p → Explains (claim_with p.fabric p.records)
is_explained l keeps input p h =
    let all = right_later l keeps h.after (progress h.fabric [] 0) p h.goes_on (new_right l h.config h.fabric h.is_new) in
    l.explained (whole_of p.fabric) p.records all.0.sound all.1

pub is_clocked : Laws → (keeps : Bool) (input : List ℕ) (p : Progress) → RunsThrough keeps input p → IsClocked (claim_with p.fabric p.records)
is_clocked l keeps input p h =
    let all = right_later l keeps h.after (progress h.fabric [] 0) p h.goes_on (new_right l h.config h.fabric h.is_new) in
    l.clocked (whole_of p.fabric) p.records all.1

-- ---- the run

pub record Answers : Type 0 where
  pub new : (c : Config) (f : Fabric) → IsNewWith c f → (f ≡ new_fabric c) × (config_fault c ≡ None)
  pub refused : (f : Fabric) (event : Event) (r : Refusal) → Refused f event r → IsTold r → answer f event ≡ Err r

-- the records that a run keeps
abbrev kept : Bool → List Record → List Record
kept traced rs = if traced then rs else []

-- the script so far
abbrev at : StepOptions → Option Fabric → List Record → ℕ → StepperView
at o f rs n = record { options = o; fabric = f; records = rs; lines = n; has_ended = false }

abbrev run_at : StepOptions → Progress → ℕ → List ℕ → Output StepperView
run_at o p n text = record { state = at o (Some p.fabric) (kept o.is_traced p.records) n; text = text; status = p.status }

abbrev runs_on : Output StepperView → List (List ℕ) → Output StepperView
runs_on run ls = fold (after_line step_responses) run ls

-- with a trace nothing is written before the end
abbrev IsSilent : StepOptions → List ℕ → Type 0
IsSilent o text = o.is_traced ≡ true → text ≡ []

record ComesTo (o : StepOptions) (run : Output StepperView) (p : Progress) : Type 0 where
  lines : ℕ
  text : List ℕ
  silent : IsSilent o text
  is : run ≡ run_at o p lines text

abbrev next : ℕ → ℕ
next n = min (n + 1) (2 ^ 64 - 1)

-- one line, by its tests and what it says
abbrev by_tests : Bool → Bool → List ℕ → Option Line → StepperView → Answer StepperView
by_tests long skipped line l s = if long then step_long_line s else (if s.has_ended then nothing s else (if skipped then nothing (counted s) else by_line s line l))

abbrev put : Bool → Bool → Option Line → List (Option Line) → List (Option Line)
put long skipped l rest = if long then None ∷ rest else (if skipped then rest else l ∷ rest)

abbrev on_from : Bool → Bool → List ℕ → Option Line → Output StepperView → List (List ℕ) → Output StepperView
on_from long skipped line l run ls = runs_on (with_answer run (by_tests long skipped line l run.state)) ls

first_same : {X : Type 0} (x y : X) (xs ys : List X) → x ∷ xs ≡ y ∷ ys → x ≡ y
first_same x y xs ys e = cc

rest_same : {X : Type 0} (x y : X) (xs ys : List X) → x ∷ xs ≡ y ∷ ys → xs ≡ ys
rest_same x y xs ys e = cc

-- ---- with a trace, and without

still : (traced : Bool) (text more : List ℕ) → (traced ≡ true → text ≡ []) → traced ≡ true → text ++ (if traced then [] else more) ≡ []
still true text more e t = ap (λ (x : List ℕ). x ++ []) (e t)
still false text more e t = absurd cc

none_kept : (traced : Bool) → [] ≡ kept traced []
none_kept true = refl
none_kept false = refl

one_kept : (traced : Bool) (rs rs' : List Record) (event : Event) (what : Seen) (n : ℕ) → rs' ≡ rs ++ records_of event what n → recorded traced (kept traced rs) event what n ≡ kept traced rs'
one_kept true rs rs' event what n e = sym e
one_kept false rs rs' event what n e = refl

settled_as : (traced : Bool) (run : Output StepperView) (s : StepperView) (line : List ℕ) (rs rs' : List Record) (t : Settling) → s.records ≡ kept traced rs → rs' ≡ recorded_all rs t
    → with_answer run (if traced then settles_traced s t else settles_telling s line t)
    ≡ record {
      state = record s { lines = next s.lines; fabric = Some t.fabric; records = kept traced rs' };
      text = run.text ++ (if traced then [] else settled_lines s.options.echoes line (recorded_all [] t));
      status = run.status;
    }
settled_as true run s line rs rs' t before after =
    ap (λ (xs : List Record). record { state = record s { lines = next s.lines; fabric = Some t.fabric; records = xs }; text = run.text ++ []; status = run.status })
    (ap (λ (xs : List Record). recorded_all xs t) before ∙ sym after)
settled_as false run s line rs rs' t before after =
    ap (λ (xs : List Record). record { state = record s { lines = next s.lines; fabric = Some t.fabric; records = xs }; text = run.text ++ settled_lines s.options.echoes line (recorded_all [] t); status = run.status }) before

-- ---- line by line

-- the run after a line is that of what the line does
after_one : Answers → (o : StepOptions) (line : List ℕ) (l : Option Line) (p p' : Progress) (n : ℕ) (text : List ℕ) → IsSilent o text → LineDoes o.keeps_going p l p'
    → ComesTo o (with_answer (run_at o p n text) (by_line (at o (Some p.fabric) (kept o.is_traced p.records) n) line l)) p'
after_one a o line None p p' n text e h = absurd h
after_one a o line (Some (lines.Fabric c)) p p' n text e h = absurd h
after_one a o line (Some (lines.Event event)) p p' n text e (inl h) =
    let g = h.recorded in
    let start = at o (Some p.fabric) (kept o.is_traced p.records) n in
    let length_before = length p.fabric.memory.entries in
    let told = shown o.echoes line (seen_text event g.what) in
    let now = text ++ (if o.is_traced then [] else told) in
    record {
      lines = next n;
      text = now;
      silent = still o.is_traced text told e;
      is = ap (λ (x : Result (Seen × Fabric) Refusal). with_answer (run_at o p n text) (answered start line event length_before x)) g.happens.0
          ∙ ap₂ (λ (rs : List Record) (status : ℕ). record { state = at o (Some p'.fabric) rs (next n); text = now; status = status })
          (one_kept o.is_traced p.records p'.records event g.what length_before g.now) (sym h.status);
    }
after_one a o line (Some (lines.Event event)) p p' n text e (inr h) =
    let start = at o (Some p.fabric) (kept o.is_traced p.records) n in
    let told = shown o.echoes line (refused_line start (refusal_text h.1.refusal)) in
    record {
      lines = next n;
      text = text ++ (if o.is_traced then [] else told);
      silent = still o.is_traced text told e;
      is = ap (λ (x : Result (Seen × Fabric) Refusal). with_answer (run_at o p n text) (answered start line event (length p.fabric.memory.entries) x))
          (a.refused p.fabric event h.1.refusal h.1.refused h.1.told)
          ∙ ap (λ (b : Bool). with_answer (run_at o p n text) (refused_by b start told)) h.0
          ∙ ap (λ (x : Progress). run_at o x (next n) (text ++ (if o.is_traced then [] else told))) (sym h.1.now);
    }
after_one a o line (Some lines.Settle) p p' n text e h =
    let told = settled_lines o.echoes line (recorded_all [] (settlement p.fabric)) in
    let now = text ++ (if o.is_traced then [] else told) in
    record {
      lines = next n;
      text = now;
      silent = still o.is_traced text told e;
      is = settled_as o.is_traced (run_at o p n text) (at o (Some p.fabric) (kept o.is_traced p.records) n) line p.records p'.records (settlement p.fabric) refl h.records
          ∙ ap₂ (λ (f : Fabric) (status : ℕ). record { state = at o (Some f) (kept o.is_traced p'.records) (next n); text = now; status = status }) (sym h.fabric) (sym h.status);
    }

abbrev Later : StepOptions → List (List ℕ) → Type 0
Later o ls = (p p' : Progress) (n : ℕ) (text : List ℕ) → IsSilent o text → LinesDo o.keeps_going p (script_of ls) p' → ComesTo o (runs_on (run_at o p n text) ls) p'

later_by : Answers → (o : StepOptions) (long skipped : Bool) (line : List ℕ) (l : Option Line) (ls : List (List ℕ)) → Later o ls →
    (p p' : Progress) (n : ℕ) (text : List ℕ) → IsSilent o text → LinesDo o.keeps_going p (put long skipped l (script_of ls)) p' → ComesTo o (on_from long skipped line l (run_at o p n text) ls) p'
later_by a o true skipped line l ls more p p' n text e h = absurd h.1
later_by a o false true line l ls more p p' n text e h = more p p' (next n) (text ++ []) (λ t. ap (λ (x : List ℕ). x ++ []) (e t)) h
later_by a o false false line l ls more p p' n text e h =
    let one = after_one a o line l p h.0 n text e h.1 in
    let all = more h.0 p' one.lines one.text one.silent h.2 in
    record { lines = all.lines; text = all.text; silent = all.silent; is = ap (λ (x : Output StepperView). runs_on x ls) one.is ∙ all.is }

lines_run : Answers → (o : StepOptions) (ls : List (List ℕ)) → Later o ls
lines_run a o [] p p' n text e h = record { lines = n; text = text; silent = e; is = ap (λ (x : Progress). run_at o x n text) (sym h) }
lines_run a o (line ∷ ls) p p' n text e h =
    later_by a o (nat_lt 512 (length (bare line))) (is_skipped (said line)) (said line) (line_of (words (said line))) ls (lines_run a o ls) p p' n text e h

abbrev start_at : StepOptions → ℕ → List ℕ → Output StepperView
start_at o n text = record { state = at o None [] n; text = text; status = 0 }

abbrev Scripts : StepOptions → List (List ℕ) → Type 0
Scripts o ls = (c : Config) (after : List (Option Line)) (p : Progress) (n : ℕ) (text : List ℕ) → IsSilent o text → config_fault c ≡ None
    → script_of ls ≡ Some (lines.Fabric c) ∷ after → LinesDo o.keeps_going (progress (new_fabric c) [] 0) after p → ComesTo o (runs_on (start_at o n text) ls) p

script_by : Answers → (o : StepOptions) (long skipped : Bool) (line : List ℕ) (l : Option Line) (ls : List (List ℕ)) → Scripts o ls →
    (c : Config) (after : List (Option Line)) (p : Progress) (n : ℕ) (text : List ℕ) → IsSilent o text → config_fault c ≡ None
    → put long skipped l (script_of ls) ≡ Some (lines.Fabric c) ∷ after → LinesDo o.keeps_going (progress (new_fabric c) [] 0) after p
    → ComesTo o (on_from long skipped line l (start_at o n text) ls) p
script_by a o true skipped line l ls more c after p n text e k is h = absurd cc
script_by a o false true line l ls more c after p n text e k is h = more c after p (next n) (text ++ []) (λ t. ap (λ (x : List ℕ). x ++ []) (e t)) k is h
script_by a o false false line l ls more c after p n text e k is h =
    let first = progress (new_fabric c) [] 0 in
    let rest = rest_same l (Some (lines.Fabric c)) (script_of ls) after is in
    let all = lines_run a o ls first p (next n) (text ++ []) (λ t. ap (λ (x : List ℕ). x ++ []) (e t)) (subst (λ (xs : List (Option Line)). LinesDo o.keeps_going first xs p) (sym rest) h) in
    record {
      lines = all.lines;
      text = all.text;
      silent = all.silent;
      is = ap (λ (x : Option Line). on_from false false line x (start_at o n text) ls) (first_same l (Some (lines.Fabric c)) (script_of ls) after is)
          ∙ ap (λ (x : Option ConfigFault). runs_on (with_answer (start_at o n text) (made (at o None [] n) c x)) ls) k
          ∙ ap (λ (rs : List Record). runs_on (record { state = at o (Some (new_fabric c)) rs (next n); text = text ++ []; status = 0 }) ls) (none_kept o.is_traced)
          ∙ all.is;
    }

scripts_run : Answers → (o : StepOptions) (ls : List (List ℕ)) → Scripts o ls
scripts_run a o [] c after p n text e k is h = absurd cc
scripts_run a o (line ∷ ls) c after p n text e k is h =
    script_by a o (nat_lt 512 (length (bare line))) (is_skipped (said line)) (said line) (line_of (words (said line))) ls (scripts_run a o ls) c after p n text e k is h

comes_to : Answers → (o : StepOptions) (input : List ℕ) (p : Progress) → RunsThrough o.keeps_going input p → ComesTo o (runs_on (start_at o 0 []) (lines_of input)) p
comes_to a o input p h =
    let made_is = a.new h.config h.fabric h.is_new in
    scripts_run a o (lines_of input) h.config h.after p 0 [] (λ t. refl) made_is.1 h.says (subst (λ (f : Fabric). LinesDo o.keeps_going (progress f [] 0) h.after p) made_is.0 h.goes_on)

pub status_is : Answers → (o : StepOptions) (input : List ℕ) (p : Progress) → RunsThrough o.keeps_going input p → (out_step_with o input).status ≡ p.status
status_is a o input p h = ap (λ (x : Output StepperView). (after_end step_responses x).status) (comes_to a o input p h).is

-- the trace is told at the end
pub text_is : Answers → (keeps echoes : Bool) (input : List ℕ) (p : Progress) → RunsThrough keeps input p
    → (out_step_with (traced keeps echoes) input).text ≡ trace_text (claim_with p.fabric p.records)
text_is a keeps echoes input p h =
    let all = comes_to a (traced keeps echoes) input p h in
    ap (λ (x : Output StepperView). (after_end step_responses x).text) all.is ∙ ap (λ (t : List ℕ). t ++ trace_text (claim_with p.fabric p.records)) (all.silent refl)

-- ---- scripts of events that all happen

events_do : (events : List Event) (f f' : Fabric) (before rs : List Record) → Runs f events rs f' → LinesDo false (progress f before 0) (map event_line events) (progress f' (before ++ rs) 0)
events_do [] f f' before rs r =
    ap₂ (λ (g : Fabric) (xs : List Record). progress g xs 0) r.1 (ap (λ (xs : List Record). before ++ xs) r.0 ∙ append-nil before)
events_do (event ∷ events) f f' before rs r =
    let first = records_of event r.0 (length f.memory.entries) in
    let all = events_do events r.1 f' (before ++ first) r.2 r.4 in (
      progress r.1 (before ++ first) 0,
      inl (record { recorded = record { what = r.0; happens = r.3; now = refl }; status = refl }),
      subst (λ (xs : List Record). LinesDo false (progress r.1 (before ++ first) 0) (map event_line events) (progress f' xs 0))
          (append_assoc before first r.2 ∙ ap (λ (xs : List Record). before ++ xs) (sym r.5)) all,
    )

pub runs_through : (input : List ℕ) (c : Config) (f f' : Fabric) (events : List Event) (rs : List Record) → IsScript input c events → IsNewWith c f → Runs f events rs f'
    → RunsThrough false input (progress f' rs 0)
runs_through input c f f' events rs s n r = record {
  config = c;
  fabric = f;
  after = map event_line events;
  says = s;
  is_new = n;
  goes_on = events_do events f f' [] rs r;
}

pub runs_explained : Laws → (c : Config) (f f' : Fabric) (events : List Event) (rs : List Record) → IsNewWith c f → Runs f events rs f' → Explains (claim_with f' rs)
runs_explained l c f f' events rs n r =
    let all = belongs l events f f' [] rs (l.sound c f n) (l.empty c f n) r in
    l.explained (whole_of f') rs all.0.sound all.1
