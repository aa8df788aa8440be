-- In a quiet fabric no requester waits.
use Rattle.std.proofs.Common.{◌≡◌, ◌≢◌, ℕ, zero, suc, List, [], ◌∷◌, map, get_or, Some, refl, ap, subst}
use Rattle.std.specs.Prelude.{slice_get}
use Rattle.std.proofs.lemmas.Option.{get_or_from_slice_get}
use Rattle.tlp_core.specs.TlpView.{TlpView}
use Rattle.requester_core.specs.RequesterView.{RequesterView}
use Rattle.lane_core.specs.Steps.{LaneEndsView}
use Rattle.lane_core.specs.Calls.{content}
use Rattle.fabric_steps.specs.Fabric.{Fabric, items, whole_of}
use Rattle.fabric_steps.specs.Packets.{marked_packet}
use Rattle.fabric_steps.specs.Sound.{Sound}
use Rattle.fabric_steps.specs.Whole.{Whole, up_of, down_of, requester_of, open_number, unused}
use Rattle.fabric_core.specs.Kept.{IsSoundFabric}
use Rattle.fabric_core.specs.Quiet.{IsQuiet}

-- the law of the whole
abbrev pub Answered : Type 0
Answered = (p : Whole) (i t k : ℕ) → Sound p → p.inward ≡ [] → up_of p i ≡ [] → p.outward ≡ [] → down_of p i ≡ [] → open_number (requester_of p i) t ≢ Some k

no_items : (e : LaneEndsView) → content e ≡ [] → items e ≡ []
no_items e h = ap (map (λ (x : TlpView × ℕ). marked_packet x.0 x.1)) h

no_items_at : (es : List LaneEndsView) (i : ℕ) → ((n : ℕ) (e : LaneEndsView) → slice_get es n ≡ Some e → content e ≡ []) → get_or (map items es) i [] ≡ []
no_items_at [] i h = refl
no_items_at (e ∷ es) zero h = no_items e (h zero e refl)
no_items_at (e ∷ es) (suc i) h = no_items_at es i (λ n x there. h (suc n) x there)

pub none_waits : Answered → (f : Fabric) → IsSoundFabric f → IsQuiet f → (i t k : ℕ) (q : RequesterView) → slice_get f.requesters i ≡ Some q → open_number q t ≢ Some k
none_waits law f s quiet i t k q there =
    subst (λ (x : RequesterView). open_number x t ≢ Some k) (get_or_from_slice_get f.requesters i q unused there)
    (law (whole_of f) (suc i) t k s.sound (no_items f.inward quiet.inward) (no_items_at f.up i quiet.up) (no_items f.outward quiet.outward) (no_items_at f.down i quiet.down))
