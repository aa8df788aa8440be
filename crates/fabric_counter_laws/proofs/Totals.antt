-- How many requests of a kind are on their paths: no step loses or doubles one.
use Rattle.std.proofs.Common.{ℕ, ◌≡◌, ◌+◌, ◌<◌, zero, suc, Bool, true, false, List, [], ◌∷◌, ◌++◌, length, map, get_or, refl, sym, ap, ap₂, subst, ◌∙◌, arith}
use Rattle.std.specs.Prelude.{slice_get, slice_set, Some}
use Rattle.tlp_core.specs.TlpView.{TlpView}
use Rattle.tlp_core.specs.Ops.{Op}
use Rattle.tlp_core.specs.declared.operation.Width.{Width}
use Rattle.seq_memory.specs.Entries.{Entry}
use Rattle.seq_memory.specs.History.{is_addition}
use Rattle.lane_core.specs.Steps.{LaneEndsView}
use Rattle.lane_core.specs.Calls.{content}
use Rattle.history_words.specs.Records.{Record}
use Rattle.history_words.specs.declared.record.RecordOf.TheVariants.{Sub, Ans}
use Rattle.fabric_steps.specs.Fabric.{Fabric, items, whole_of}
use Rattle.fabric_steps.specs.Packets.{marked_packet}
use Rattle.fabric_steps.specs.Lists.{one_if}
use Rattle.fabric_steps.specs.Whole.{Whole, MarkedPacket, up_of, requester_of, entry_of, marked_request}
use Rattle.fabric_steps.specs.Steps.{Step, IsTaken, submits, forwards, serves, returns, collects, links}
use Rattle.fabric_steps.specs.Event.{Event}
use Rattle.fabric_steps.specs.Event.{Seen}
use Rattle.fabric_core.specs.Answers.{Happens}
use Rattle.fabric_core.specs.Kept.{IsSoundFabric, records_of}
use Rattle.fabric_core.specs.Quiet.{IsQuiet}
use Rattle.fabric_core.specs.Runs.{Runs}
use Rattle.fabric_counter_laws.specs.Counters.{submitted_additions}

-- how many elements have an operation that adds
abbrev pub adding : {X : Type 0} → (X → Op) → ℕ → Width → List X → ℕ
adding of a w [] = 0
adding of a w (x ∷ xs) = one_if (is_addition a w (of x)) + adding of a w xs

abbrev pub of_entry : Entry → Op
of_entry e = e.op

abbrev of_packet : MarkedPacket → Op
of_packet x = x.op

abbrev in_lanes : ℕ → Width → List (List MarkedPacket) → ℕ
in_lanes a w [] = 0
in_lanes a w (xs ∷ lanes) = adding of_packet a w xs + in_lanes a w lanes

-- in the history, and on the way to it
abbrev total : ℕ → Width → Whole → ℕ
total a w p = adding of_entry a w p.history + (adding of_packet a w p.inward + in_lanes a w p.up)

adding_append : {X : Type 0} (of : X → Op) (a : ℕ) (w : Width) (xs ys : List X) → adding of a w (xs ++ ys) ≡ adding of a w xs + adding of a w ys
adding_append of a w [] ys = omega arith
adding_append of a w (x ∷ xs) ys = let more = adding_append of a w xs ys in omega (arith, more)

-- an item that leaves
taken_less : (a : ℕ) (w : Width) (old : List MarkedPacket) (x : MarkedPacket) (new : List MarkedPacket) → IsTaken old x new → adding of_packet a w old ≡ adding of_packet a w new + one_if (is_addition a w x.op)
taken_less a w old x new t =
    let was = ap (adding of_packet a w) t.was ∙ adding_append of_packet a w t.before (x ∷ t.behind) in
    let now = ap (adding of_packet a w) t.now ∙ adding_append of_packet a w t.before t.behind in
    omega (arith, was, now)

-- a lane in place of another
lane_set : (a : ℕ) (w : Width) (lanes : List (List MarkedPacket)) (i : ℕ) (xs : List MarkedPacket) → i < length lanes
    → in_lanes a w (slice_set lanes i xs) + adding of_packet a w (get_or lanes i []) ≡ in_lanes a w lanes + adding of_packet a w xs
lane_set a w [] i xs l = absurd (omega arith)
lane_set a w (ys ∷ lanes) zero xs l = omega arith
lane_set a w (ys ∷ lanes) (suc i) xs l = let more = lane_set a w lanes i xs (omega arith) in omega (arith, more)

step_total : (a : ℕ) (w : Width) (p p' : Whole) (rs : List Record) → Step p p' rs → total a w p' ≡ total a w p + submitted_additions a w rs
step_total a w p p' rs (submits i op h e) =
    let request = marked_request i h.tag (requester_of p i).next op in
    let now = ap (total a w) h.now in
    let set = lane_set a w p.up i (up_of p i ++ request ∷ []) h.has_up in
    let more = adding_append of_packet a w (up_of p i) (request ∷ []) in
    let told : submitted_additions a w rs ≡ one_if (is_addition a w op) + 0 = ap (submitted_additions a w) e in
    omega (arith, now, set, more, told)
step_total a w p p' rs (forwards i h e) =
    let now = ap (total a w) h.now in
    let set = lane_set a w p.up i h.rest h.has_up in
    let less = taken_less a w (up_of p i) h.item h.rest h.taken in
    let more = adding_append of_packet a w p.inward (h.item ∷ []) in
    let told : submitted_additions a w rs ≡ 0 = ap (submitted_additions a w) e in
    omega (arith, now, set, less, more, told)
step_total a w p p' rs (serves h e) =
    let now = ap (total a w) h.now in
    let less = taken_less a w p.inward h.item h.rest h.taken in
    let more = adding_append of_entry a w p.history (entry_of h.item ∷ []) in
    let told : submitted_additions a w rs ≡ 0 = ap (submitted_additions a w) e in
    omega (arith, now, less, more, told)
step_total a w p p' rs (returns h e) =
    let now = ap (total a w) h.now in
    let told : submitted_additions a w rs ≡ 0 = ap (submitted_additions a w) e in
    omega (arith, now, told)
step_total a w p p' rs (collects i number reply h e) =
    let now = ap (total a w) h.now in
    let told : submitted_additions a w rs ≡ 0 = ap (submitted_additions a w) e in
    omega (arith, now, told)
step_total a w p p' rs (links h e) =
    let now = ap (total a w) h in
    let told : submitted_additions a w rs ≡ 0 = ap (submitted_additions a w) e in
    omega (arith, now, told)

pub record EachEvent : Type 0 where
  pub step : (f f' : Fabric) (event : Event) (what : Seen) → IsSoundFabric f → Happens f event what f' → Step (whole_of f) (whole_of f') (records_of event what (length f.memory.entries))
  pub sound : (f f' : Fabric) (event : Event) (what : Seen) → IsSoundFabric f → Happens f event what f' → IsSoundFabric f'

submitted_append : (a : ℕ) (w : Width) (rs ss : List Record) → submitted_additions a w (rs ++ ss) ≡ submitted_additions a w rs + submitted_additions a w ss
submitted_append a w [] ss = omega arith
submitted_append a w (Sub i k op n ∷ rs) ss = let more = submitted_append a w rs ss in omega (arith, more)
submitted_append a w (Ans i k reply n ∷ rs) ss = submitted_append a w rs ss

run_total : EachEvent → (a : ℕ) (w : Width) (f g : Fabric) (es : List Event) (rs : List Record) → IsSoundFabric f → Runs f es rs g → total a w (whole_of g) ≡ total a w (whole_of f) + submitted_additions a w rs
run_total l a w f g [] rs s r =
    let none : submitted_additions a w rs ≡ 0 = ap (submitted_additions a w) r.0 in
    let same : total a w (whole_of g) ≡ total a w (whole_of f) = ap (λ (x : Fabric). total a w (whole_of x)) r.1 in
    omega (arith, none, same)
run_total l a w f g (e ∷ es) rs s r =
    let first = records_of e r.0 (length f.memory.entries) in
    let one = step_total a w (whole_of f) (whole_of r.1) first (l.step f r.1 e r.0 s r.3) in
    let later = run_total l a w r.1 g es r.2 (l.sound f r.1 e r.0 s r.3) r.4 in
    let told = ap (submitted_additions a w) r.5 ∙ submitted_append a w first r.2 in
    omega (arith, one, later, told)

-- ---- a quiet fabric has all of them in its history

no_items : (e : LaneEndsView) → content e ≡ [] → items e ≡ []
no_items e h = ap (map (λ (x : TlpView × ℕ). marked_packet x.0 x.1)) h

no_lanes : (a : ℕ) (w : Width) (lanes : List LaneEndsView) → ((i : ℕ) (e : LaneEndsView) → slice_get lanes i ≡ Some e → content e ≡ []) → in_lanes a w (map items lanes) ≡ 0
no_lanes a w [] h = refl
no_lanes a w (e ∷ lanes) h =
    let first : adding of_packet a w (items e) ≡ 0 = ap (adding of_packet a w) (no_items e (h 0 e refl)) in
    let later = no_lanes a w lanes (λ i x at. h (suc i) x at) in
    omega (arith, first, later)

quiet_total : (a : ℕ) (w : Width) (f : Fabric) → IsQuiet f → total a w (whole_of f) ≡ adding of_entry a w f.memory.entries
quiet_total a w f q =
    let inward : adding of_packet a w (items f.inward) ≡ 0 = ap (adding of_packet a w) (no_items f.inward q.inward) in
    let lanes = no_lanes a w f.up q.up in
    omega (arith, inward, lanes)

-- the history of a new fabric that a run leaves quiet has as many additions as were submitted
pub all_acted : EachEvent → (a : ℕ) (w : Width) (f g : Fabric) (es : List Event) (rs : List Record) → IsSoundFabric f → f.memory.entries ≡ [] → IsQuiet f → IsQuiet g → Runs f es rs g
    → adding of_entry a w g.memory.entries ≡ submitted_additions a w rs
all_acted l a w f g es rs s empty q q' r =
    let run = run_total l a w f g es rs s r in
    let before = quiet_total a w f q in
    let after = quiet_total a w g q' in
    let none : adding of_entry a w f.memory.entries ≡ 0 = ap (adding of_entry a w) empty in
    omega (arith, run, before, after, none)
