-- A settlement is a run that submits nothing.
use Rattle.std.proofs.Common.{◌≡◌, ℕ, List, [], ◌∷◌, ◌++◌, length, refl, subst}
use Rattle.history_words.specs.Records.{Record}
use Rattle.fabric_steps.specs.Fabric.{Fabric}
use Rattle.fabric_steps.specs.Lists.{Each}
use Rattle.fabric_steps.specs.Event.{Event}
use Rattle.fabric_core.specs.Answers.{Happens}
use Rattle.fabric_core.specs.Kept.{IsSoundFabric, IsNoSubmission, records_of}
use Rattle.fabric_core.specs.Runs.{Runs}
use Rattle.fabric_settle.specs.Happenings.{Happening, Leads}
use Rattle.fabric_settle.specs.Rounds.{settlement}

-- what a settlement lists happens, and submits nothing
pub record Settlements : Type 0 where
  pub happens : (f : Fabric) → IsSoundFabric f → Leads Happens f (settlement f).happened (settlement f).fabric
  pub nothing : (f : Fabric) → Each (λ (h : Happening). IsNoSubmission h.event) (settlement f).happened

pub record RunsQuietly (f g : Fabric) : Type 0 where
  pub events : List Event
  pub told : List Record
  pub nothing : Each IsNoSubmission events
  pub runs : Runs f events told g

runs_of : (hs : List Happening) (f g : Fabric) → Leads Happens f hs g → Each (λ (h : Happening). IsNoSubmission h.event) hs → RunsQuietly f g
runs_of [] f g r none = record { events = []; told = []; nothing = tt; runs = (refl, r) }
runs_of (h ∷ hs) f g r none =
    let happens : Happens f h.event h.what h.after = subst (λ (x : Fabric). Happens x h.event h.what h.after) r.0 r.1 in
    let later = runs_of hs h.after g r.2 none.1 in
    record {
      events = h.event ∷ later.events;
      told = records_of h.event h.what (length f.memory.entries) ++ later.told;
      nothing = (none.0, later.nothing);
      runs = (h.what, h.after, later.told, happens, later.runs, refl);
    }

pub settlement_runs : Settlements → (f : Fabric) → IsSoundFabric f → RunsQuietly f (settlement f).fabric
settlement_runs l f s = runs_of (settlement f).happened f (settlement f).fabric (l.happens f s) (l.nothing f)
