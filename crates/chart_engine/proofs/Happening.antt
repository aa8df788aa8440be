-- The chart of a script is told what happens to its fabric.
use Rattle.std.proofs.Common.{◌≡◌, ◌∙◌, ◌+◌, ◌++◌, ℕ, Bool, true, false, List, [], ◌∷◌, refl, sym, ap, subst, inl, inr, fold, cond, length, map, length-append, append_assoc, add-zero, zero-add, arith, Result, Ok, Err}
use Rattle.std.proofs.lemmas.List.{append-nil}
use Rattle.std.specs.Prelude.{nat_lt, Option, Some, None}
use Rattle.fabric_steps.specs.Fabric.{Fabric}
use Rattle.fabric_core.specs.declared.config.Config.{Config}
use Rattle.fabric_core.specs.declared.config.ConfigFault.{ConfigFault}
use Rattle.fabric_steps.specs.Event.{Event, Seen}
use Rattle.fabric_steps.specs.declared.fault.Refusal.{Refusal}
use Rattle.fabric_core.specs.Answers.{answer}
use Rattle.fabric_core.specs.New.{new_fabric, config_fault}
use Rattle.fabric_settle.specs.Happenings.{Happening, Answers, Leads}
use Rattle.fabric_settle.specs.Rounds.{settlement}
use Rattle.script_text.specs.declared.line.Line.{Line}
use Rattle.script_text.specs.declared.line.Line.TheVariants as lines
use Rattle.hex_text.specs.Lines.{lines_of, bare, said}
use Rattle.line_loop.specs.Run.{Run, after_line, new_run}
use Rattle.chart_links.specs.declared.window.ChartWindow.{ChartWindow}
use Rattle.chart_links.specs.ChartView.{ChartView, new_chart, charted, headed, row_for, head_row, rows_with}
use Rattle.chart_links.specs.Levels.{new_lines}
use Rattle.chart_levels.specs.StepLineView.{StepLineView}
use Rattle.chart_levels.specs.Levels.{shown, shown_from}
use Rattle.chart_laws.specs.Arrows.{EventTale, Tale, told, row_in}
use Rattle.chart_laws.specs.Happened.{Happened, told_all}
use Rattle.chart_engine.specs.ChartWitnessView.{ChartWitnessView}
use Rattle.chart_engine.specs.declared.chart.Session.{Session}
use Rattle.chart_engine.specs.Chart as spec
use Rattle.chart_engine.specs.Chart.{CharterView, chart_responses, out_chart, witness, witnessed, row_shown, settles_with, refused_with}
use Rattle.chart_engine.specs.Events.{IsOfEvents, ShowsEvents, ShowsEventsIfAny, left_with, after, if_row, row_fabrics, shown_all, told_witness}
use Rattle.chart_engine.proofs.Charted.{quiet_before}

-- a fabric and its chart after events that happened
record Exact (w : ChartWindow) (f : Fabric) (v : ChartWitnessView) : Type 0 where
  config : Config
  faultless : config_fault config ≡ None
  tales : List Tale
  happened : Happened (new_fabric config) tales f
  chart : v ≡ told_witness (new_fabric config) w config.requesters tales

-- ---- one event more

happened_more : (ts : List Tale) (t : EventTale) (f g h : Fabric) → Happened f ts g → answer g t.event ≡ Ok (t.what, h) → Happened f (ts ++ Tale.Happens t ∷ []) h
happened_more [] t f g h e a = (h, subst (λ (x : Fabric). answer x t.event ≡ Ok (t.what, h)) (sym e) a, refl)
happened_more (Tale.Settles line ∷ ts) t f g h e a = happened_more ts t f g h e a
happened_more (Tale.Happens s ∷ ts) t f g h e a = (e.0, e.1, happened_more ts t e.0 g h e.2 a)

-- a `settle` changes no fabric
happened_settle : (ts : List Tale) (line : ℕ) (f g : Fabric) → Happened f ts g → Happened f (ts ++ Tale.Settles line ∷ []) g
happened_settle [] line f g e = e
happened_settle (Tale.Settles other ∷ ts) line f g e = happened_settle ts line f g e
happened_settle (Tale.Happens s ∷ ts) line f g e = (e.0, e.1, happened_settle ts line e.0 g e.2)

told_more : (ts : List Tale) (t : EventTale) (v : ChartView) → told_all v (ts ++ Tale.Happens t ∷ []) ≡ told (told_all v ts) t
told_more [] t v = refl
told_more (Tale.Settles line ∷ ts) t v = told_more ts t (headed v line)
told_more (Tale.Happens s ∷ ts) t v = told_more ts t (told v s)

told_settle : (ts : List Tale) (line : ℕ) (v : ChartView) → told_all v (ts ++ Tale.Settles line ∷ []) ≡ headed (told_all v ts) line
told_settle [] line v = refl
told_settle (Tale.Settles other ∷ ts) line v = told_settle ts line (headed v other)
told_settle (Tale.Happens s ∷ ts) line v = told_settle ts line (told v s)

-- ---- one row more

-- the fabrics of the rows are those before the last event, and perhaps the one after it
fabrics_more : (ts : List Tale) (t : EventTale) (v : ChartView) (f g h : Fabric) → Happened f ts g → answer g t.event ≡ Ok (t.what, h)
    → row_fabrics f v (ts ++ Tale.Happens t ∷ []) ≡ row_fabrics f v ts ++ if_row (row_in (told_all v ts) t) h
fabrics_more [] t v f g h e a =
    append-nil (if_row (row_in v t) (after f t))
    ∙ ap (λ (x : Fabric). if_row (row_in v t) (left_with f (answer x t.event))) e
    ∙ ap (λ (x : Result (Seen × Fabric) Refusal). if_row (row_in v t) (left_with f x)) a
fabrics_more (Tale.Settles line ∷ ts) t v f g h e a =
    ap (λ (rest : List Fabric). if_row (head_row v line) f ++ rest) (fabrics_more ts t (headed v line) f g h e a)
    ∙ sym (append_assoc (if_row (head_row v line) f) (row_fabrics f (headed v line) ts) (if_row (row_in (told_all (headed v line) ts) t) h))
fabrics_more (Tale.Happens s ∷ ts) t v f g h e a =
    let next : after f s ≡ e.0 = ap (left_with f) e.1 in
    ap (λ (rest : List Fabric). if_row (row_in v s) (after f s) ++ rest)
    (fabrics_more ts t (told v s) (after f s) g h (subst (λ (x : Fabric). Happened x ts g) (sym next) e.2) a)
    ∙ sym (append_assoc (if_row (row_in v s) (after f s)) (row_fabrics (after f s) (told v s) ts) (if_row (row_in (told_all (told v s) ts) t) h))

-- at a `settle` it is the one before the last
fabrics_settle : (ts : List Tale) (line : ℕ) (v : ChartView) (f g : Fabric) → Happened f ts g
    → row_fabrics f v (ts ++ Tale.Settles line ∷ []) ≡ row_fabrics f v ts ++ if_row (head_row (told_all v ts) line) g
fabrics_settle [] line v f g e = append-nil (if_row (head_row v line) f) ∙ ap (λ (x : Fabric). if_row (head_row v line) x) e
fabrics_settle (Tale.Settles other ∷ ts) line v f g e =
    ap (λ (rest : List Fabric). if_row (head_row v other) f ++ rest) (fabrics_settle ts line (headed v other) f g e)
    ∙ sym (append_assoc (if_row (head_row v other) f) (row_fabrics f (headed v other) ts) (if_row (head_row (told_all (headed v other) ts) line) g))
fabrics_settle (Tale.Happens s ∷ ts) line v f g e =
    let next : after f s ≡ e.0 = ap (left_with f) e.1 in
    ap (λ (rest : List Fabric). if_row (row_in v s) (after f s) ++ rest)
    (fabrics_settle ts line (told v s) (after f s) g (subst (λ (x : Fabric). Happened x ts g) (sym next) e.2))
    ∙ sym (append_assoc (if_row (row_in v s) (after f s)) (row_fabrics (after f s) (told v s) ts) (if_row (head_row (told_all (told v s) ts) line) g))

-- an event or a `settle` that is shown gets the next row, and one that isn't adds none
pub record NextRow : Type 0 where
  pub next : (v : ChartView) (line : ℕ) (event : Event) (what : Seen) (row : ℕ) → row_for v line event what ≡ Some row → row ≡ length v.page.rows
  pub rows : (v : ChartView) (line : ℕ) (event : Event) (what : Seen) → length (charted v line event what).page.rows ≡ rows_with (row_for v line event what) (length v.page.rows)
  pub head_next : (v : ChartView) (line row : ℕ) → head_row v line ≡ Some row → row ≡ length v.page.rows
  pub head_rows : (v : ChartView) (line : ℕ) → length (headed v line).page.rows ≡ rows_with (head_row v line) (length v.page.rows)

row_counted : (o : Option ℕ) (n : ℕ) (f : Fabric) → rows_with o n ≡ n + length (if_row o f)
row_counted None n f = sym (add-zero n)
row_counted (Some row) n f = refl

-- there is a fabric for each row
as_many : NextRow → (ts : List Tale) (v : ChartView) (f : Fabric) → length (told_all v ts).page.rows ≡ length v.page.rows + length (row_fabrics f v ts)
as_many q [] v f = sym (add-zero (length v.page.rows))
as_many q (Tale.Settles line ∷ ts) v f =
    let first : length (headed v line).page.rows ≡ length v.page.rows + length (if_row (head_row v line) f) =
    q.head_rows v line ∙ row_counted (head_row v line) (length v.page.rows) f in
    let rest = as_many q ts (headed v line) f in
    let both = length-append (if_row (head_row v line) f) (row_fabrics f (headed v line) ts) in
    omega (arith, first, rest, both)
as_many q (Tale.Happens t ∷ ts) v f =
    let first : length (told v t).page.rows ≡ length v.page.rows + length (if_row (row_in v t) (after f t)) =
    q.rows v t.line t.event t.what ∙ row_counted (row_in v t) (length v.page.rows) (after f t) in
    let rest = as_many q ts (told v t) (after f t) in
    let both = length-append (if_row (row_in v t) (after f t)) (row_fabrics (after f t) (told v t) ts) in
    omega (arith, first, rest, both)

shown_end : (fs : List Fabric) (g : Fabric) (row : ℕ) (l : StepLineView) → shown_from row (fs ++ g ∷ []) l ≡ shown (row + length fs) g (shown_from row fs l)
shown_end [] g row l =
    ap (λ (n : ℕ). shown n g l) (sym (add-zero row))
shown_end (f ∷ fs) g row l =
    let same : (row + 1) + length fs ≡ row + length (f ∷ fs) = omega arith in
    shown_end fs g (row + 1) (shown row f l) ∙ ap (λ (n : ℕ). shown n g (shown_from (row + 1) fs (shown row f l))) same

each_shown : (fs : List Fabric) (g : Fabric) (n : ℕ) (ls : List StepLineView) → n ≡ length fs → map (shown n g) (map (shown_from 0 fs) ls) ≡ map (shown_from 0 (fs ++ g ∷ [])) ls
each_shown fs g n [] e = refl
each_shown fs g n (l ∷ ls) e =
    let same : n ≡ 0 + length fs = e ∙ sym (zero-add (length fs)) in
    ap (λ (x : StepLineView). x ∷ map (shown n g) (map (shown_from 0 fs) ls)) (ap (λ (k : ℕ). shown k g (shown_from 0 fs l)) same ∙ sym (shown_end fs g 0 l))
    ∙ ap (λ (rest : List StepLineView). shown_from 0 (fs ++ g ∷ []) l ∷ rest) (each_shown fs g n ls e)

row_more : (o : Option ℕ) (fs : List Fabric) (g : Fabric) (ls : List StepLineView) → ((row : ℕ) → o ≡ Some row → row ≡ length fs)
    → row_shown o g (shown_all fs ls) ≡ shown_all (fs ++ if_row o g) ls
row_more (Some row) fs g ls e = each_shown fs g row ls (e row refl)
row_more None fs g ls e = ap (λ (gs : List Fabric). shown_all gs ls) (sym (append-nil fs))

witness_more : NextRow → (w : ChartWindow) (n : ℕ) (ts : List Tale) (t : EventTale) (f g h : Fabric) → Happened f ts g → answer g t.event ≡ Ok (t.what, h)
    → witnessed (told_witness f w n ts) t.line t.event t.what h ≡ told_witness f w n (ts ++ Tale.Happens t ∷ [])
witness_more q w n ts t f g h e a =
    let start : ChartView = new_chart w n in
    let v : ChartView = told_all start ts in
    let fs : List Fabric = row_fabrics f start ts in
    let lines : List StepLineView = new_lines w n in
    let rows : length v.page.rows ≡ length fs = as_many q ts start f ∙ zero-add (length fs) in
    ap (λ (x : ChartView). witness x (row_shown (row_in v t) h (shown_all fs lines))) (sym (told_more ts t start))
    ∙ ap (λ (ls : List StepLineView). witness (told_all start (ts ++ Tale.Happens t ∷ [])) ls)
    (row_more (row_in v t) fs h lines (λ row is. q.next v t.line t.event t.what row is ∙ rows)
    ∙ ap (λ (gs : List Fabric). shown_all gs lines) (sym (fabrics_more ts t start f g h e a)))

witness_settle : NextRow → (w : ChartWindow) (n : ℕ) (ts : List Tale) (line : ℕ) (f g : Fabric) → Happened f ts g
    → settles_with (told_witness f w n ts) line g ≡ told_witness f w n (ts ++ Tale.Settles line ∷ [])
witness_settle q w n ts line f g e =
    let start : ChartView = new_chart w n in
    let v : ChartView = told_all start ts in
    let fs : List Fabric = row_fabrics f start ts in
    let lines : List StepLineView = new_lines w n in
    let rows : length v.page.rows ≡ length fs = as_many q ts start f ∙ zero-add (length fs) in
    ap (λ (x : ChartView). witness x (row_shown (head_row v line) g (shown_all fs lines))) (sym (told_settle ts line start))
    ∙ ap (λ (ls : List StepLineView). witness (told_all start (ts ++ Tale.Settles line ∷ [])) ls)
    (row_more (head_row v line) fs g lines (λ row is. q.head_next v line row is ∙ rows)
    ∙ ap (λ (gs : List Fabric). shown_all gs lines) (sym (fabrics_settle ts line start f g e)))

one_settle : NextRow → (w : ChartWindow) (f : Fabric) (v : ChartWitnessView) (line : ℕ) → Exact w f v → Exact w f (settles_with v line f)
one_settle q w f v line e = record {
  config = e.config;
  faultless = e.faultless;
  tales = e.tales ++ Tale.Settles line ∷ [];
  happened = happened_settle e.tales line (new_fabric e.config) f e.happened;
  chart = ap (λ (x : ChartWitnessView). settles_with x line f) e.chart ∙ witness_settle q w e.config.requesters e.tales line (new_fabric e.config) f e.happened;
}

one_more : NextRow → (w : ChartWindow) (f g : Fabric) (v : ChartWitnessView) (line : ℕ) (event : Event) (what : Seen) → Exact w f v → answer f event ≡ Ok (what, g) → Exact w g (witnessed v line event what g)
one_more q w f g v line event what e a =
    let t : EventTale = record { line = line; event = event; what = what } in
    record {
      config = e.config;
      faultless = e.faultless;
      tales = e.tales ++ Tale.Happens t ∷ [];
      happened = happened_more e.tales t (new_fabric e.config) f g e.happened a;
      chart = ap (λ (x : ChartWitnessView). witnessed x line event what g) e.chart ∙ witness_more q w e.config.requesters e.tales t (new_fabric e.config) f g e.happened a;
    }

-- ---- what happens while the fabric is settled

abbrev Settled : Type 0
Settled = (f : Fabric) → Leads Answers f (settlement f).happened (settlement f).fabric

of_each : NextRow → (w : ChartWindow) (line : ℕ) (hs : List Happening) (f g : Fabric) (v : ChartWitnessView) → Leads Answers f hs g → Exact w f v → Exact w g (fold (spec.charted_of line) v hs)
of_each q w line [] f g v r e = subst (λ (x : Fabric). Exact w x v) (sym r) e
of_each q w line (h ∷ hs) f g v r e =
    of_each q w line hs h.after g (witnessed v line h.event h.what h.after) r.2
    (one_more q w f h.after v line h.event h.what e (subst (λ (x : Fabric). answer x h.event ≡ Ok (h.what, h.after)) r.0 r.1))

-- before the first row
each_none : (ls : List StepLineView) → ls ≡ map (shown_from 0 []) ls
each_none [] = refl
each_none (l ∷ ls) = ap (λ (rest : List StepLineView). l ∷ rest) (each_none ls)

none_shown : (w : ChartWindow) (n : ℕ) (f : Fabric) → spec.new_witness w n ≡ told_witness f w n []
none_shown w n f = ap (witness (new_chart w n)) (each_none (new_lines w n))

-- ---- lines

abbrev ExactIfAny : ChartWindow → Option Session → Type 0
ExactIfAny w None = Unit {0}
ExactIfAny w (Some p) = Exact w p.fabric p.chart

-- until the run ends the chart is told exactly what happened
record Holds (w : ChartWindow) (s : CharterView) : Type 0 where
  window : s.window ≡ w
  exact : s.ending ≡ None → ExactIfAny w s.session
  shows : ShowsEventsIfAny w s.session

as_shown : (w : ChartWindow) (p : Session) → Exact w p.fabric p.chart → ShowsEvents w p
as_shown w p e = record { config = e.config; faultless = e.faultless; tales = e.tales; happened = e.happened; chart = inl e.chart }

shown_last : (w : ChartWindow) (p : Session) (line : ℕ) (event : Event) (r : _) → Exact w p.fabric p.chart → ShowsEvents w (spec.session p.fabric (refused_with p.chart line event r p.fabric))
shown_last w p line event r e = record {
  config = e.config;
  faultless = e.faultless;
  tales = e.tales;
  happened = e.happened;
  chart = inr (line, event, r, ap (λ (v : ChartWitnessView). refused_with v line event r p.fabric) e.chart);
}

no_ending : {A : Type 0} (line : List ℕ) → Some line ≡ None → A
no_ending line e = absurd cc

goes_on : (w : ChartWindow) (s : CharterView) (p : Session) → s.window ≡ w → Exact w p.fabric p.chart → Holds w (spec.goes_on s p).0
goes_on w s p window e = record { window = window; exact = λ none. e; shows = as_shown w p e }

ends : (w : ChartWindow) (s : CharterView) (o : Option Session) (line : List ℕ) → s.window ≡ w → ShowsEventsIfAny w o → Holds w (spec.ends s o line).0
ends w s o line window e = record { window = window; exact = λ some. no_ending line some; shows = e }

of_made : (w : ChartWindow) (s : CharterView) (c : Config) (x : Option ConfigFault) → Holds w s → config_fault c ≡ x → Holds w (spec.made s c x).0
of_made w s c (Some x) h is = ends w s s.session _ h.window h.shows
of_made w s c None h is =
    goes_on w s (spec.session (new_fabric c) (spec.new_witness s.window c.requesters)) h.window
    (record { config = c; faultless = is; tales = []; happened = refl; chart = ap (λ (v : ChartWindow). spec.new_witness v c.requesters) h.window ∙ none_shown w c.requesters (new_fabric c) })

of_made_once : (w : ChartWindow) (s : CharterView) (o : Option Session) (c : Config) → Holds w s → Holds w (spec.made_once s o c).0
of_made_once w s None c h = of_made w s c (config_fault c) h refl
of_made_once w s (Some p) c h = ends w s s.session _ h.window h.shows

of_answer : NextRow → (w : ChartWindow) (s : CharterView) (p : Session) (event : Event) (a : Result (Seen × Fabric) Refusal) → s.window ≡ w → answer p.fabric event ≡ a → Exact w p.fabric p.chart
    → Holds w (spec.answered s p event a).0
of_answer q w s p event (Ok a) window is e = goes_on w s _ window (one_more q w p.fabric a.1 p.chart (spec.next_line s) event a.0 e is)
of_answer q w s p event (Err r) window is e = ends w s _ _ window (shown_last w p (spec.next_line s) event r e)

of_happened : NextRow → (w : ChartWindow) (s : CharterView) (o : Option Session) (event : Event) → Holds w s → ExactIfAny w o → Holds w (spec.happened s o event).0
of_happened q w s None event h e = ends w s s.session _ h.window h.shows
of_happened q w s (Some p) event h e = of_answer q w s p event (answer p.fabric event) h.window refl e

of_settled : NextRow → Settled → (w : ChartWindow) (s : CharterView) (o : Option Session) → Holds w s → ExactIfAny w o → Holds w (spec.settles s o).0
of_settled q l w s None h e = ends w s s.session _ h.window h.shows
of_settled q l w s (Some p) h e = goes_on w s _ h.window (of_each q w (spec.next_line s) (settlement p.fabric).happened p.fabric (settlement p.fabric).fabric (settles_with p.chart (spec.next_line s) p.fabric) (l p.fabric) (one_settle q w p.fabric p.chart (spec.next_line s) e))

of_line : NextRow → Settled → (w : ChartWindow) (s : CharterView) (o : Option Line) → Holds w s → ExactIfAny w s.session → Holds w (spec.by_line s o).0
of_line q l w s None h e = ends w s s.session _ h.window h.shows
of_line q l w s (Some (lines.Fabric c)) h e = of_made_once w s s.session c h
of_line q l w s (Some (lines.Event event)) h e = of_happened q w s s.session event h e
of_line q l w s (Some lines.Settle) h e = of_settled q l w s s.session h e

unless : (w : ChartWindow) (s : CharterView) (ending : Option (List ℕ)) (l : CharterView × Bool) → Holds w s → s.ending ≡ ending → (ExactIfAny w s.session → Holds w l.0)
    → Holds w (spec.unless_ended s ending l).0
unless w s None l h is next = next (h.exact is)
unless w s (Some line) l h is next = h

skipped : (w : ChartWindow) (s : CharterView) (b : Bool) (l : CharterView × Bool) → Holds w s → Holds w l.0 → Holds w (cond b (spec.counted s, false) l).0
skipped w s true l h next = record { window = h.window; exact = h.exact; shows = h.shows }
skipped w s false l h next = next

of_chart_line : NextRow → Settled → (w : ChartWindow) (s : CharterView) (line : List ℕ) → Holds w s → Holds w (spec.chart_line s line).state
of_chart_line q l w s line h = unless w s s.ending _ h refl (λ e. skipped w s _ _ h (of_line q l w s _ h e))

of_long_line : (w : ChartWindow) (s : CharterView) → Holds w s → Holds w (spec.chart_long_line s).state
of_long_line w s h = unless w s s.ending _ h refl (λ e. ends w s s.session _ h.window h.shows)

of_either : NextRow → Settled → (w : ChartWindow) (t : Bool) (s : CharterView) (line : List ℕ) → Holds w s → Holds w (cond t (chart_responses.on_long_line s) (chart_responses.on_line s (said line))).state
of_either q l w true s line h = of_long_line w s h
of_either q l w false s line h = of_chart_line q l w s (said line) h

of_lines : NextRow → Settled → (w : ChartWindow) (ls : List (List ℕ)) (run : Run CharterView) → Holds w run.state → Holds w (fold (after_line chart_responses) run ls).state
of_lines q l w [] run h = h
of_lines q l w (x ∷ ls) run h = of_lines q l w ls (after_line chart_responses run x) (of_either q l w (nat_lt 512 (length (bare x))) run.state x h)

pub of_events : NextRow → Settled → (w : ChartWindow) (input : List ℕ) → IsOfEvents w (out_chart w input).text
of_events q l w input =
    let start : CharterView = spec.new_script w in
    let read : Run CharterView = fold (after_line chart_responses) (new_run start) (lines_of input) in
    let holds : Holds w read.state = of_lines q l w (lines_of input) (new_run start) (record { window = refl; exact = λ none. tt; shows = tt }) in
    record {
      session = read.state.session;
      ending = read.state.ending;
      shows = holds.shows;
      is = ap (λ (t : List ℕ). t ++ spec.text_of read.state.session read.state.ending) (quiet_before w input);
    }
