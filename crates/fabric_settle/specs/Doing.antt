-- A fabric and what a witness keeps, beside the definition of a settling.
use Rattle.std.specs.Prelude.{◌≡◌, Bool, List, fold}
use Rattle.fabric_steps.specs.Fabric.{Fabric}
use Rattle.fabric_settle.specs.Happenings.{Happening}
use Rattle.fabric_settle.specs.Rounds.{Settling, at}

-- the fabric is that of the settling, and what is kept is of what happened in it
pub record IsBeside {K : Type 0} (saw : K → Happening → K) (start : K) (f : Fabric) (k : K) (moved : Bool) (s : Settling) : Type 0 where
  pub same : at f s.happened moved ≡ s
  pub kept : k ≡ fold saw start s.happened

-- a call does this step of a settling, whatever happened before it
abbrev pub Does : {K : Type 0} → (K → Happening → K) → Fabric → K → Bool → (Settling → Settling) → Fabric → K → Bool → Type 0
Does {K} saw f k moved step f' k' moved' = (start : K) (happened : List Happening) → k ≡ fold saw start happened → IsBeside saw start f' k' moved' (step (at f happened moved))
