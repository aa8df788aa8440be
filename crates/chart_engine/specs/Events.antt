-- Whose events the charts of `chart` show.
use Rattle.std.specs.Prelude.{ℕ, ◌≡◌, ◌⊎◌, List, [], ◌∷◌, ◌++◌, map, Option, Some, None, Result, Ok, Err}
use Rattle.std.specs.Io.KnownBytes.{Appends}
use Rattle.fabric_core.specs.declared.config.Config.{Config}
use Rattle.fabric_steps.specs.Event.{Event, Seen}
use Rattle.fabric_steps.specs.declared.fault.Refusal.{Refusal}
use Rattle.fabric_steps.specs.Fabric.{Fabric}
use Rattle.fabric_core.specs.Answers.{answer}
use Rattle.fabric_core.specs.New.{new_fabric, config_fault}
use Rattle.chart_links.specs.declared.window.ChartWindow.{ChartWindow}
use Rattle.chart_links.specs.ChartView.{ChartView, new_chart, headed, head_row}
use Rattle.chart_links.specs.Levels.{new_lines}
use Rattle.chart_levels.specs.StepLineView.{StepLineView}
use Rattle.chart_levels.specs.Levels.{shown_from}
use Rattle.chart_laws.specs.Arrows.{EventTale, Tale, told, row_in}
use Rattle.chart_laws.specs.Happened.{Happened, told_all}
use Rattle.chart_engine.specs.declared.chart.Session.{Session}
use Rattle.chart_engine.specs.ChartWitnessView.{ChartWitnessView}
use Rattle.chart_engine.specs.Chart.{text_of, witness, refused_with}

-- ---- the fabrics of the rows

-- the fabric after an event that happens
abbrev pub left_with : Fabric → Result (Seen × Fabric) Refusal → Fabric
left_with f (Ok a) = a.1
left_with f (Err r) = f

abbrev pub after : Fabric → EventTale → Fabric
after f t = left_with f (answer f t.event)

abbrev pub if_row : Option ℕ → Fabric → List Fabric
if_row None f = []
if_row (Some row) f = f ∷ []

-- the fabric after the event of each row, in turn; at a `settle` that before its events
abbrev pub row_fabrics : Fabric → ChartView → List Tale → List Fabric
row_fabrics f v [] = []
row_fabrics f v (Tale.Settles line ∷ ts) = if_row (head_row v line) f ++ row_fabrics f (headed v line) ts
row_fabrics f v (Tale.Happens t ∷ ts) = if_row (row_in v t) (after f t) ++ row_fabrics (after f t) (told v t) ts

-- step lines that are shown these fabrics, one for each row: at each row they have the level of its fabric (chart_levels,
-- `step_lines_have_the_levels_of_their_rows`)
abbrev pub shown_all : List Fabric → List StepLineView → List StepLineView
shown_all fs lines = map (shown_from 0 fs) lines

-- ---- the events of a chart

-- a chart that is told what happened to this fabric, with its step lines
abbrev pub told_witness : Fabric → ChartWindow → ℕ → List Tale → ChartWitnessView
told_witness f w requesters tales = witness (told_all (new_chart w requesters) tales) (shown_all (row_fabrics f (new_chart w requesters) tales) (new_lines w requesters))

-- the one chart, or the same with an event that the fabric refused
abbrev pub IsLast : ChartWitnessView → Fabric → ChartWitnessView → Type 0
IsLast all f chart = (chart ≡ all) ⊎ ((line : ℕ) × (event : Event) × (r : Refusal) × (chart ≡ refused_with all line event r f))

-- the chart was told events that happened one after the other to the new fabric of a configuration, and perhaps one that
-- was refused last
pub record ShowsEvents (w : ChartWindow) (p : Session) : Type 0 where
  pub config : Config
  pub faultless : config_fault config ≡ None
  pub tales : List Tale
  pub happened : Happened (new_fabric config) tales p.fabric
  pub chart : IsLast (told_witness (new_fabric config) w config.requesters tales) p.fabric p.chart

-- a script without a fabric shows none
abbrev pub ShowsEventsIfAny : ChartWindow → Option Session → Type 0
ShowsEventsIfAny w None = Unit {0}
ShowsEventsIfAny w (Some p) = ShowsEvents w p

-- the text is the chart of such events
pub record IsOfEvents (w : ChartWindow) (text : List ℕ) : Type 0 where
  pub session : Option Session
  pub ending : Option (List ℕ)
  pub shows : ShowsEventsIfAny w session
  pub is : text ≡ text_of session ending

-- what was written is such a text
pub record WritesEvents (w : ChartWindow) (out out' : Option (List ℕ)) : Type 0 where
  pub text : List ℕ
  pub written : Appends out out' text
  pub of_events : IsOfEvents w text
