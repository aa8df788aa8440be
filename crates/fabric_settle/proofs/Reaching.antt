-- Lists of events that happen, one behind the other.
use Rattle.std.proofs.Common.{◌∙◌, List, [], ◌∷◌, ◌++◌, length, refl, sym, ap, subst, append_assoc}
use Rattle.history_words.specs.Records.{Record}
use Rattle.fabric_steps.specs.Fabric.{Fabric}
use Rattle.fabric_steps.specs.Event.{Event, Seen}
use Rattle.fabric_core.specs.Answers.{Happens}
use Rattle.fabric_core.specs.Kept.{records_of}
use Rattle.fabric_core.specs.Runs.{Runs}
use Rattle.fabric_settle.specs.Rest.{Reaches}

pub itself : (f : Fabric) → Reaches f f
itself f = record { events = []; told = []; runs = (refl, refl) }

pub by_one : (f g : Fabric) (e : Event) (what : Seen) → Happens f e what g → Reaches f g
by_one f g e what h = record { events = e ∷ []; told = records_of e what (length f.memory.entries) ++ []; runs = (what, g, [], h, (refl, refl), refl) }

run_on : (es : List Event) (f g h : Fabric) (fs : List Event) (rs ss : List Record) → Runs f es rs g → Runs g fs ss h → Runs f (es ++ fs) (rs ++ ss) h
run_on [] f g h fs rs ss r s =
    subst (λ (x : Fabric). Runs x fs (rs ++ ss) h) r.1 (subst (λ (xs : List Record). Runs g fs (xs ++ ss) h) (sym r.0) s)
run_on (e ∷ es) f g h fs rs ss r s = (
  r.0,
  r.1,
  r.2 ++ ss,
  r.3,
  run_on es r.1 g h fs r.2 ss r.4 s,
  ap (λ (xs : List Record). xs ++ ss) r.5 ∙ append_assoc (records_of e r.0 (length f.memory.entries)) r.2 ss,
)

pub then_on : (f g h : Fabric) → Reaches f g → Reaches g h → Reaches f h
then_on f g h r s = record { events = r.events ++ s.events; told = r.told ++ s.told; runs = run_on r.events f g h s.events r.told s.told r.runs s.runs }
