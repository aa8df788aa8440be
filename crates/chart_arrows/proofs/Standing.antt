-- The accounts of a chart when one lane changes, and what is on the wires then.
use Rattle.std.proofs.Common.{◌≡◌, ◌∙◌, ◌≢◌, ◌⊎◌, ℕ, ◌+◌, Bool, true, false, List, [], ◌∷◌, ◌++◌, drop, map, refl, sym, ap, subst, inl, inr, Option, Some, None, Result, Ok}
use Rattle.std.specs.Prelude.{◌==◌, if◌then◌else◌, slice_get}
use Rattle.std.proofs.lemmas.Bool.Decides.{eqb_tells}
use Rattle.seq_memory.specs.Entries.{Entry}
use Rattle.seq_memory.specs.History.{MemoryView}
use Rattle.link_replay.specs.declared.fault.AckFault.{AckFault}
use Rattle.lane_core.specs.declared.packet.WirePacket.{WirePacket}
use Rattle.lane_core.specs.declared.packet.Fate.{Fate}
use Rattle.lane_core.specs.declared.packet.Arrival.{Arrival}
use Rattle.lane_core.specs.declared.packet.DllpSeen.{DllpSeen}
use Rattle.dllp_core.specs.declared.packet.Dllp.{Dllp}
use Rattle.lane_core.specs.Steps.{LaneEndsView, ReceiverEndView, delivered, dllp_seen}
use Rattle.fabric_steps.specs.Fabric.{Fabric}
use Rattle.fabric_steps.specs.declared.event.LaneName.{LaneName}
use Rattle.fabric_steps.specs.declared.event.LaneName.TheVariants as lanes
use Rattle.fabric_core.specs.Answers.{with_lane}
use Rattle.fabric_core.specs.Answers as parts
use Rattle.chart_rows.specs.declared.row.Carried.{Carried}
use Rattle.chart_rows.specs.declared.row.DllpSent.{DllpSent}
use Rattle.chart_rows.specs.declared.row.PacketSent.{PacketSent}
use Rattle.chart_rows.specs.declared.row.Deed.TheVariants as deeds
use Rattle.chart_links.specs.CourseView.{CourseView, next_carried, next_packet, oldest, oldest_back, sent, arrived, without, without_back, entered, told as told_dllp}
use Rattle.chart_links.specs.Lanes.{place_of, lane_at, changed, asked_found, asked, with_completion}
use Rattle.chart_laws.specs.Arrows.{sent_on, begun_on}
use Rattle.chart_arrows.specs.Accounts.{IsSaidOnWire, IsAccountOf, AreAccountsOf}
use Rattle.chart_arrows.proofs.Lists.{HasSo, at_so}
use Rattle.chart_arrows.proofs.Parts.{Few, ok_or, lane_is, few_with, ends_same, ends_other}
use Rattle.chart_arrows.proofs.Courses.{Becomes}
use Rattle.chart_arrows.proofs.Moves.{On, shown, keeps, keeps_twice, sends, arrives, leaves, joins, told_back}
use Rattle.chart_arrows.proofs.Ends.{account_more}

-- ---- the courses of a chart

-- with a history of another length
abbrev pub Accounts : List Entry → Fabric → List CourseView → Type 0
Accounts h f cs = (lane : LaneName) (e : LaneEndsView) → parts.lane_at f lane ≡ Ok e → (c : CourseView) × (slice_get cs (place_of lane) ≡ Some c) × IsAccountOf h e c

-- ---- a lane changes

pub same_lane : (f : Fabric) (lane other : LaneName) (e x : LaneEndsView) → Few f → parts.lane_at f lane ≡ Ok e → parts.lane_at f other ≡ Ok x → place_of lane ≡ place_of other → lane ≡ other
same_lane f lane other e x few has there is = sym (lane_is f lane e (place_of other) few has is) ∙ lane_is f other x (place_of other) few there refl

pub one_lane_by : (h : List Entry) (f : Fabric) (cs cs' : List CourseView) (lane other : LaneName) (e e' x : LaneEndsView) (g : CourseView → CourseView) → Few f → Accounts h f cs
    → parts.lane_at f lane ≡ Ok e → ((c : CourseView) → IsAccountOf h e c → IsAccountOf h e' (g c)) → Becomes cs cs' (place_of lane) g → parts.lane_at (with_lane f lane e') other ≡ Ok x
    → (((place_of lane == place_of other) ≡ true) × (place_of lane ≡ place_of other)) ⊎ (((place_of lane == place_of other) ≡ false) × (place_of lane ≢ place_of other))
    → (c : CourseView) × (slice_get cs' (place_of other) ≡ Some c) × IsAccountOf h x c
one_lane_by h f cs cs' lane other e e' x g few all has makes now there (inl w) =
    let stands : parts.lane_at (with_lane f lane e') lane ≡ Ok e' = ends_same f lane e e' has in
    let same : lane ≡ other = same_lane (with_lane f lane e') lane other e' x (few_with f lane e' few) stands there w.1 in
    let is : e' ≡ x = ap (ok_or e') (sym stands ∙ ap (λ (l : LaneName). parts.lane_at (with_lane f lane e') l) same ∙ there) in
    let a = all lane e has in
    (g a.0, subst (λ (k : ℕ). slice_get cs' k ≡ Some (g a.0)) w.1 (now.here a.0 a.1), subst (λ (y : LaneEndsView). IsAccountOf h y (g a.0)) is (makes a.0 a.2))
one_lane_by h f cs cs' lane other e e' x g few all has makes now there (inr w) =
    let apart : lane ≢ other = λ is. w.1 (ap (λ (l : LaneName). place_of l) is) in
    let a = all other x (sym (ends_other f lane other e' apart) ∙ there) in
    (a.0, now.others (place_of other) w.1 ∙ a.1, a.2)

pub one_lane : (h : List Entry) (f : Fabric) (cs cs' : List CourseView) (lane : LaneName) (e e' : LaneEndsView) (g : CourseView → CourseView) → Few f → Accounts h f cs
    → parts.lane_at f lane ≡ Ok e → ((c : CourseView) → IsAccountOf h e c → IsAccountOf h e' (g c)) → Becomes cs cs' (place_of lane) g → Accounts h (with_lane f lane e') cs'
one_lane h f cs cs' lane e e' g few all has makes now =
    λ other x there. one_lane_by h f cs cs' lane other e e' x g few all has makes now there (eqb_tells (place_of lane) (place_of other))

pub other_fabric : (h : List Entry) (f f' : Fabric) (cs : List CourseView) → ((lane : LaneName) → parts.lane_at f' lane ≡ parts.lane_at f lane) → Accounts h f cs → Accounts h f' cs
other_fabric h f f' cs same all = λ lane e has. all lane e (sym (same lane) ∙ has)

pub longer : (h : List Entry) (x : Entry) (f : Fabric) (cs : List CourseView) → Accounts h f cs → Accounts (h ++ x ∷ []) f cs
longer h x f cs all =
    λ lane e has.
    let a = all lane e has in
    (a.0, a.1, account_more h x e a.0 a.2)

pub memory_same : (f : Fabric) (lane : LaneName) (e : LaneEndsView) → (with_lane f lane e).memory ≡ f.memory
memory_same f (lanes.Up port) e = refl
memory_same f (lanes.Down port) e = refl
memory_same f lanes.Inward e = refl
memory_same f lanes.Outward e = refl

pub of_lane : (f : Fabric) (cs cs' : List CourseView) (lane : LaneName) (e e' : LaneEndsView) (g : CourseView → CourseView) → Few f → AreAccountsOf f cs → parts.lane_at f lane ≡ Ok e
    → ((c : CourseView) → IsAccountOf f.memory.entries e c → IsAccountOf f.memory.entries e' (g c)) → Becomes cs cs' (place_of lane) g → AreAccountsOf (with_lane f lane e') cs'
of_lane f cs cs' lane e e' g few all has makes now =
    subst (λ (m : MemoryView). Accounts m.entries (with_lane f lane e') cs') (sym (memory_same f lane e')) (one_lane f.memory.entries f cs cs' lane e e' g few all has makes now)

-- ---- the wires back

abbrev pub as_seen : DllpSeen → Result (Option DllpSeen) AckFault
as_seen what = Ok (Some what)

abbrev pub packets_of : CourseView → List (Option PacketSent)
packets_of c = shown c.wire

abbrev pub dllps_of : CourseView → List (Option DllpSent)
dllps_of c = shown c.back

pub completion_still : {X : Type 0} (wire : CourseView → List X) → ((place : ℕ) (c : CourseView) → wire (without place c) ≡ wire c) → ((x : Carried) (c : CourseView) → wire (entered (Some x) c) ≡ wire c)
    → (k : ℕ) (cs : List CourseView) (place : ℕ) (o : Option Carried) → On wire k cs ++ [] ≡ On wire k (with_completion (changed (without place) cs lanes.Inward) o)
completion_still wire keep kept k cs place None = keeps wire (without place) (keep place) cs lanes.Inward k
completion_still wire keep kept k cs place (Some x) = keeps_twice wire (without place) (entered (Some x)) (keep place) (kept x) cs lanes.Inward lanes.Outward k

pub oldest_packet : (wire : List WirePacket) (r : ReceiverEndView) (fate : Fate) (arrival : Arrival) → delivered wire r fate ≡ Some arrival → (p : WirePacket) × (slice_get wire 0 ≡ Some p)
oldest_packet [] r fate arrival e = absurd cc
oldest_packet (p ∷ ps) r fate arrival e = (p, refl)

pub empty_none : (back : List Dllp) (d : Dllp) → [] ≡ back → slice_get back 0 ≡ Some d → ⊥
empty_none [] d is has = cc
empty_none (x ∷ xs) d is has = cc

-- the oldest DLLP, as the chart knows it
pub record IsOldest (back : List Dllp) (ds : List DllpSent) : Type 0 where
  pub s : DllpSent
  pub there : slice_get ds 0 ≡ Some s
  pub is : slice_get back 0 ≡ Some s.dllp

pub oldest_by : (back : List Dllp) (ds : List DllpSent) (d : Dllp) → map (λ (x : DllpSent). x.dllp) ds ≡ back → slice_get back 0 ≡ Some d → IsOldest back ds
oldest_by back [] d is has = absurd (empty_none back d is has)
oldest_by back (x ∷ xs) d is has = record { s = x; there = refl; is = ap (λ (t : List Dllp). slice_get t 0) (sym is) }

pub oldest_seen : (e : LaneEndsView) (ds : List DllpSent) (back : List Dllp) (fate : Fate) (what : DllpSeen) → map (λ (x : DllpSent). x.dllp) ds ≡ back → dllp_seen back e.sender fate ≡ as_seen what → IsOldest back ds
oldest_seen e ds [] fate what is has = absurd cc
oldest_seen e ds (d ∷ rest) fate what is has = oldest_by (d ∷ rest) ds d is refl

pub packet_sent : (n : ℕ) (row : Option ℕ) (cs : List CourseView) (lane : LaneName) (k : ℕ) (c : CourseView) → slice_get cs (place_of lane) ≡ Some c
    → On packets_of k cs ++ sent_on k row (deeds.Sent lane n (asked next_carried None cs lane)) ≡ On packets_of k (changed (sent n row) cs lane)
packet_sent n row cs lane k c is =
    sends packets_of (sent n row) cs lane k c (Some (record { number = n; carried = asked next_carried None cs lane; row = row })) is
    (ap (λ (o : Option CourseView). shown c.wire ++ Some (record { number = n; carried = asked_found next_carried None o; row = row }) ∷ []) is ∙ joins c.wire (next_packet n row c))

pub packet_arrived : (accepted : Bool) (f : Fabric) (cs : List CourseView) (lane : LaneName) (e : LaneEndsView) (fate : Fate) (arrival : Arrival) (k : ℕ) → AreAccountsOf f cs → parts.lane_at f lane ≡ Ok e
    → delivered e.forward e.receiver fate ≡ Some arrival
    → On packets_of k cs ++ [] ≡ begun_on k (deeds.Arrived lane fate arrival (asked oldest None cs lane)) ++ On packets_of k (changed (arrived accepted) cs lane)
packet_arrived accepted f cs lane e fate arrival k all has came =
    let h : List Entry = f.memory.entries in
    let a = all lane e has in
    let first = oldest_packet e.forward e.receiver fate arrival came in
    let s : HasSo (IsSaidOnWire h) first.0 a.0.wire 0 = at_so (IsSaidOnWire h) e.forward a.0.wire 0 first.0 a.2.wire first.1 in
    arrives packets_of (arrived accepted) cs lane k a.0 (asked oldest None cs lane) a.1
    (leaves a.0.wire s.y s.there ∙ sym (ap (λ (o : Option CourseView). asked_found oldest None o ∷ shown (drop 1 a.0.wire)) a.1))

pub dllp_arrived : (what : DllpSeen) (cs : List CourseView) (lane : LaneName) (k : ℕ) (c : CourseView) (s : DllpSent) → slice_get cs (place_of lane) ≡ Some c → slice_get c.back 0 ≡ Some s
    → On dllps_of k cs ++ [] ≡ (if place_of lane == k then asked oldest_back None cs lane ∷ [] else []) ++ On dllps_of k (changed (λ c. told_dllp what (without_back c)) cs lane)
dllp_arrived what cs lane k c s is first =
    arrives dllps_of (λ c. told_dllp what (without_back c)) cs lane k c (asked oldest_back None cs lane) is
    (leaves c.back s first ∙ sym (ap (λ (o : Option CourseView). asked_found oldest_back None o ∷ shown (drop 1 c.back)) is)
    ∙ sym (ap (λ (ds : List DllpSent). asked oldest_back None cs lane ∷ shown ds) (told_back what c)))
