-- What a change of the parts of one requester does to the view of each.
use Rattle.std.proofs.Common.{◌≡◌, ◌≢◌, ℕ, ◌<◌, List, [], length, get_or, set, ap, ◌∙◌}
use Rattle.std.proofs.lemmas.List.{get_or-set_same, get_or-set_other}
use Rattle.fabric_steps.specs.Whole.{MarkedPacket, RequesterView, Whole, view, up_of, down_of, requester_of, unused}

pub view_up : (p : Whole) (w : List MarkedPacket) (i j : ℕ) (u : List MarkedPacket) → j ≡ i → i < length p.up → view (record p { up = set p.up i u; inward = w }) j ≡ record (view p j) { up = u; inward = w }
view_up p w i j u e h = λ n. record { extent = p.extent; history = p.history; inward = w; outward = p.outward; up = (ap (get_at (set p.up i u)) e ∙ get_or-set_same p.up i u [] h) n; down = down_of p j; requester = requester_of p j }
  where
    get_at : List (List MarkedPacket) → ℕ → List MarkedPacket
    get_at l k = get_or l k []

pub view_up_other : (p : Whole) (w : List MarkedPacket) (i j : ℕ) (u : List MarkedPacket) → j ≢ i → view (record p { up = set p.up i u; inward = w }) j ≡ record (view p j) { inward = w }
view_up_other p w i j u ne = λ n. record { extent = p.extent; history = p.history; inward = w; outward = p.outward; up = get_or-set_other p.up i j u [] ne n; down = down_of p j; requester = requester_of p j }

pub view_down : (p : Whole) (o : List MarkedPacket) (i : ℕ) (d : List MarkedPacket) → i < length p.down → view (record p { down = set p.down i d; outward = o }) i ≡ record (view p i) { down = d; outward = o }
view_down p o i d h = λ n. record { extent = p.extent; history = p.history; inward = p.inward; outward = o; up = up_of p i; down = get_or-set_same p.down i d [] h n; requester = requester_of p i }

pub view_down_other : (p : Whole) (o : List MarkedPacket) (i j : ℕ) (d : List MarkedPacket) → j ≢ i → view (record p { down = set p.down i d; outward = o }) j ≡ record (view p j) { outward = o }
view_down_other p o i j d ne = λ n. record { extent = p.extent; history = p.history; inward = p.inward; outward = o; up = up_of p j; down = get_or-set_other p.down i j d [] ne n; requester = requester_of p j }

pub view_submit : (p : Whole) (i : ℕ) (u : List MarkedPacket) (q : RequesterView) → i < length p.up → i < length p.requesters → view (record p { up = set p.up i u; requesters = set p.requesters i q }) i ≡ record (view p i) { up = u; requester = q }
view_submit p i u q h k = λ n. record { extent = p.extent; history = p.history; inward = p.inward; outward = p.outward; up = get_or-set_same p.up i u [] h n; down = down_of p i; requester = get_or-set_same p.requesters i q unused k n }

pub view_submit_other : (p : Whole) (i j : ℕ) (u : List MarkedPacket) (q : RequesterView) → j ≢ i → view (record p { up = set p.up i u; requesters = set p.requesters i q }) j ≡ view p j
view_submit_other p i j u q ne = λ n. record { extent = p.extent; history = p.history; inward = p.inward; outward = p.outward; up = get_or-set_other p.up i j u [] ne n; down = down_of p j; requester = get_or-set_other p.requesters i j q unused ne n }

pub view_collect : (p : Whole) (i : ℕ) (d : List MarkedPacket) (q : RequesterView) → i < length p.down → i < length p.requesters → view (record p { down = set p.down i d; requesters = set p.requesters i q }) i ≡ record (view p i) { down = d; requester = q }
view_collect p i d q h k = λ n. record { extent = p.extent; history = p.history; inward = p.inward; outward = p.outward; up = up_of p i; down = get_or-set_same p.down i d [] h n; requester = get_or-set_same p.requesters i q unused k n }

pub view_collect_other : (p : Whole) (i j : ℕ) (d : List MarkedPacket) (q : RequesterView) → j ≢ i → view (record p { down = set p.down i d; requesters = set p.requesters i q }) j ≡ view p j
view_collect_other p i j d q ne = λ n. record { extent = p.extent; history = p.history; inward = p.inward; outward = p.outward; up = up_of p j; down = get_or-set_other p.down i j d [] ne n; requester = get_or-set_other p.requesters i j q unused ne n }
