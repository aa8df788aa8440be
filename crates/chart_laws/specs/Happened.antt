-- Events that happen one after the other to a fabric.
use Rattle.std.specs.Prelude.{◌≡◌, List, [], ◌∷◌, Ok}
use Rattle.fabric_steps.specs.Fabric.{Fabric}
use Rattle.fabric_core.specs.Answers.{answer}
use Rattle.chart_links.specs.ChartView.{ChartView, headed}
use Rattle.chart_laws.specs.Arrows.{Tale, told}

-- each tale of an event is of one that happens to the fabric which the earlier ones leave, and of what is seen of it; all of
-- them leave the other fabric
abbrev pub Happened : Fabric → List Tale → Fabric → Type 0
Happened f [] f' = f ≡ f'
Happened f (Tale.Settles line ∷ ts) f' = Happened f ts f'
Happened f (Tale.Happens t ∷ ts) f' = (g : Fabric) × (answer f t.event ≡ Ok (t.what, g)) × Happened g ts f'

-- a chart that is told all of them
abbrev pub told_all : ChartView → List Tale → ChartView
told_all v [] = v
told_all v (Tale.Settles line ∷ ts) = told_all (headed v line) ts
told_all v (Tale.Happens t ∷ ts) = told_all (told v t) ts
