-- Each event that happens keeps the accounts of a chart.
use Rattle.std.proofs.Common.{◌≡◌, ◌∙◌, ℕ, zero, suc, ◌+◌, ◌≤◌, ◌<◌, List, [], ◌∷◌, ◌++◌, refl, sym, ap, subst, Option, Some, Ok, append_assoc, arith}
use Rattle.std.specs.Prelude.{replicate, slice_get}
use Rattle.std.proofs.lemmas.List.{append-nil}
use Rattle.seq_memory.specs.Entries.{Entry}
use Rattle.flow_control.specs.declared.limits.LaneCredits.{LaneCredits}
use Rattle.lane_core.specs.Steps.{LaneEndsView, new_lane}
use Rattle.fabric_steps.specs.Fabric.{Fabric}
use Rattle.fabric_steps.specs.Routed.{IsRouted}
use Rattle.fabric_core.specs.declared.config.Config.{Config}
use Rattle.fabric_steps.specs.Event.{Event, Seen}
use Rattle.fabric_steps.specs.declared.event.EventOf.TheVariants as events
use Rattle.fabric_steps.specs.declared.event.LaneName.{LaneName}
use Rattle.fabric_steps.specs.declared.event.LaneName.TheVariants as lanes
use Rattle.fabric_steps.specs.declared.fault.Refusal.TheVariants as refusals
use Rattle.fabric_core.specs.Answers.{part_at, answer, Happens, Fits}
use Rattle.fabric_core.specs.Answers as parts
use Rattle.fabric_core.specs.Config.{IsNewWith, AreNewLanes, down_credits}
use Rattle.fabric_core.specs.Kept.{IsSoundFabric}
use Rattle.chart_rows.specs.declared.row.DllpSent.{DllpSent}
use Rattle.chart_rows.specs.declared.row.PacketSent.{PacketSent}
use Rattle.chart_links.specs.CourseView.{CourseView, quiet}
use Rattle.chart_links.specs.Lanes.{place_of, lane_at}
use Rattle.chart_links.specs.declared.window.ChartWindow.{ChartWindow}
use Rattle.chart_links.specs.ChartView.{ChartView, new_chart, headed}
use Rattle.chart_laws.specs.Arrows.{Tale, told, row_in, deed_in, sent_on, begun_on, sendings, beginnings}
use Rattle.chart_laws.specs.Happened.{told_all}
use Rattle.chart_arrows.specs.Accounts.{IsAccountOf, AreAccountsOf, Happen}
use Rattle.chart_arrows.specs.Wires.{packets_left, dllp_sent_on, dllp_begun_on, dllp_sendings, dllp_beginnings, dllps_left}
use Rattle.chart_arrows.proofs.Parts.{Few, ok_or, in_set}
use Rattle.chart_arrows.proofs.Moves.{On}
use Rattle.chart_arrows.proofs.Standing.{packets_of, dllps_of}
use Rattle.chart_arrows.proofs.Links.{Kept, of_transmit, of_deliver, of_send, of_dllp, of_timer, of_retrained}
use Rattle.chart_arrows.proofs.Passing.{AreRead, of_submit, of_forward, of_collect}
use Rattle.chart_arrows.proofs.Serving.{AreAsking, of_serve}

-- ---- all events

pub few_of : (f : Fabric) → IsSoundFabric f → Few f
few_of f sound = record { up = subst (λ (n : ℕ). n ≤ 7) (sym sound.lanes.up) sound.lanes.few; down = subst (λ (n : ℕ). n ≤ 7) (sym sound.lanes.down) sound.lanes.few }

pub kept_by : AreRead → AreAsking → (cs : List CourseView) (row : Option ℕ) (f : Fabric) (event : Event) (b : Seen × Fabric) → Few f → IsRouted f → AreAccountsOf f cs → Fits f event → answer f event ≡ Ok b
    → Kept cs row event b
kept_by read asking cs row f (events.Submit port op) b few routed all fits eq = of_submit read cs row f port op b few routed all fits eq
kept_by read asking cs row f (events.Transmit lane) b few routed all fits eq = of_transmit cs row f lane b few all eq
kept_by read asking cs row f (events.Deliver lane fate) b few routed all fits eq = of_deliver cs row f lane fate b few all eq
kept_by read asking cs row f (events.SendDllp lane kind) b few routed all fits eq = of_send cs row f lane kind b few all eq
kept_by read asking cs row f (events.DeliverDllp lane fate) b few routed all fits eq = of_dllp cs row f lane fate b few all eq
kept_by read asking cs row f (events.Timer lane) b few routed all fits eq = of_timer cs row f lane b few all eq
kept_by read asking cs row f (events.Retrained lane) b few routed all fits eq = of_retrained cs row f lane b few all eq
kept_by read asking cs row f (events.Forward lane place) b few routed all fits eq = of_forward read cs row f lane place b few all fits eq
kept_by read asking cs row f (events.Serve place) b few routed all fits eq = of_serve read asking cs row f place b few routed all fits eq
kept_by read asking cs row f (events.Collect port) b few routed all fits eq = of_collect cs row f port b few all eq

pub kept : AreRead → AreAsking → (f f' : Fabric) (event : Event) (what : Seen) (row : Option ℕ) (cs : List CourseView) → IsSoundFabric f → Happens f event what f' → AreAccountsOf f cs
    → Kept cs row event (what, f')
kept read asking f f' event what row cs sound happens all = kept_by read asking cs row f event (what, f') (few_of f sound) sound.routed all happens.1 happens.0

-- ---- a new fabric

pub get_replicate : {X : Type 0} (n : ℕ) (x : X) (i : ℕ) → i < n → slice_get (replicate n x) i ≡ Some x
get_replicate zero x i less = absurd (omega (arith, less))
get_replicate (suc n) x zero less = refl
get_replicate (suc n) x (suc i) less = get_replicate n x i (omega (arith, less))

pub place_below : (lane : LaneName) → place_of lane < 16
place_below (lanes.Up port) = omega arith
place_below (lanes.Down port) = omega arith
place_below lanes.Inward = omega arith
place_below lanes.Outward = omega arith

pub quiet_account : (h : List Entry) (e : LaneEndsView) (credits : LaneCredits) → e ≡ new_lane credits → IsAccountOf h e quiet
quiet_account h e credits is = subst (λ (x : LaneEndsView). IsAccountOf h x quiet) (sym is) (record { acked = refl; kept = tt; place = refl; replays = refl; wire = tt; back = refl; queue = tt })

pub part_new : (xs : List LaneEndsView) (count port : ℕ) (credits : LaneCredits) (e : LaneEndsView) → AreNewLanes count credits xs → part_at xs port ≡ Ok e → e ≡ new_lane credits
part_new xs count zero credits e new has = absurd cc
part_new xs count (suc i) credits e new has = new.each i e (in_set xs i e refusals.NoSuchPart has)

pub lane_new : (h : List Entry) (c : Config) (f : Fabric) (lane : LaneName) (e : LaneEndsView) → IsNewWith c f → parts.lane_at f lane ≡ Ok e → IsAccountOf h e quiet
lane_new h c f (lanes.Up port) e new has = quiet_account h e c.credits (part_new f.up c.requesters port c.credits e new.up has)
lane_new h c f (lanes.Down port) e new has = quiet_account h e (down_credits c.credits) (part_new f.down c.requesters port (down_credits c.credits) e new.down has)
lane_new h c f lanes.Inward e new has = quiet_account h e c.credits (sym (ap (ok_or e) has) ∙ new.inward)
lane_new h c f lanes.Outward e new has = quiet_account h e c.credits (sym (ap (ok_or e) has) ∙ new.outward)

pub accounts_new : (c : Config) (f : Fabric) (window : ChartWindow) → IsNewWith c f → AreAccountsOf f (new_chart window c.requesters).courses
accounts_new c f window new = λ lane e has. (quiet, get_replicate 16 quiet (place_of lane) (place_below lane), lane_new f.memory.entries c f lane e new has)

-- ---- events that happen one after the other

abbrev pub StaySound : Type 0
StaySound = (f f' : Fabric) (event : Event) (what : Seen) → IsSoundFabric f → Happens f event what f' → IsSoundFabric f'

pub all_kept : AreRead → AreAsking → StaySound → (ts : List Tale) (v : ChartView) (f left : Fabric) → IsSoundFabric f → AreAccountsOf f v.courses → Happen f ts left → AreAccountsOf left (told_all v ts).courses
all_kept read asking stay [] v f left sound all h = subst (λ (g : Fabric). AreAccountsOf g v.courses) h all
all_kept read asking stay (Tale.Settles line ∷ ts) v f left sound all h = all_kept read asking stay ts (headed v line) f left sound all h
all_kept read asking stay (Tale.Happens t ∷ ts) v f left sound all h =
    all_kept read asking stay ts (told v t) h.0 left (stay f h.0 t.event t.what sound h.1) (kept read asking f h.0 t.event t.what (row_in v t) v.courses sound h.1 all).accounts h.2

-- ---- the DLLPs that are sent

pub join : {X : Type 0} (w s s' b b' w' l : List X) → w ++ s ≡ b ++ w' → w' ++ s' ≡ b' ++ l → w ++ (s ++ s') ≡ (b ++ b') ++ l
join w s s' b b' w' l now later =
    sym (append_assoc w s s') ∙ ap (λ t. t ++ s') now ∙ append_assoc b w' s' ∙ ap (λ t. b ++ t) later ∙ sym (append_assoc b b' l)

pub all_sent : AreRead → AreAsking → StaySound → (ts : List Tale) (v : ChartView) (k : ℕ) (f left : Fabric) → IsSoundFabric f → AreAccountsOf f v.courses → Happen f ts left
    → On packets_of k v.courses ++ sendings k v ts ≡ beginnings k v ts ++ On packets_of k (told_all v ts).courses
all_sent read asking stay [] v k f left sound all h = append-nil (On packets_of k v.courses)
all_sent read asking stay (Tale.Settles line ∷ ts) v k f left sound all h = all_sent read asking stay ts (headed v line) k f left sound all h
all_sent read asking stay (Tale.Happens t ∷ ts) v k f left sound all h =
    let now : Kept v.courses (row_in v t) t.event (t.what, h.0) = kept read asking f h.0 t.event t.what (row_in v t) v.courses sound h.1 all in
    join (On packets_of k v.courses) (sent_on k (row_in v t) (deed_in v t)) (sendings k (told v t) ts) (begun_on k (deed_in v t)) (beginnings k (told v t) ts) (On packets_of k (told v t).courses)
    (On packets_of k (told_all v (Tale.Happens t ∷ ts)).courses) (now.wires k) (all_sent read asking stay ts (told v t) k h.0 left (stay f h.0 t.event t.what sound h.1) now.accounts h.2)

pub all_sent_back : AreRead → AreAsking → StaySound → (ts : List Tale) (v : ChartView) (k : ℕ) (f left : Fabric) → IsSoundFabric f → AreAccountsOf f v.courses → Happen f ts left
    → On dllps_of k v.courses ++ dllp_sendings k v ts ≡ dllp_beginnings k v ts ++ On dllps_of k (told_all v ts).courses
all_sent_back read asking stay [] v k f left sound all h = append-nil (On dllps_of k v.courses)
all_sent_back read asking stay (Tale.Settles line ∷ ts) v k f left sound all h = all_sent_back read asking stay ts (headed v line) k f left sound all h
all_sent_back read asking stay (Tale.Happens t ∷ ts) v k f left sound all h =
    let now : Kept v.courses (row_in v t) t.event (t.what, h.0) = kept read asking f h.0 t.event t.what (row_in v t) v.courses sound h.1 all in
    join (On dllps_of k v.courses) (dllp_sent_on k (row_in v t) (deed_in v t)) (dllp_sendings k (told v t) ts) (dllp_begun_on k (deed_in v t)) (dllp_beginnings k (told v t) ts) (On dllps_of k (told v t).courses)
    (On dllps_of k (told_all v (Tale.Happens t ∷ ts)).courses) (now.backs k) (all_sent_back read asking stay ts (told v t) k h.0 left (stay f h.0 t.event t.what sound h.1) now.accounts h.2)

pub none_on : {X : Type 0} (wire : CourseView → List X) (n k : ℕ) → wire quiet ≡ [] → On wire k (replicate n quiet) ≡ []
none_on wire zero k empty = refl
none_on wire (suc n) zero empty = empty
none_on wire (suc n) (suc k) empty = none_on wire n k empty

pub new_sent : AreRead → AreAsking → StaySound → (c : Config) (window : ChartWindow) (ts : List Tale) (k : ℕ) (f left : Fabric) → IsSoundFabric f → IsNewWith c f → Happen f ts left
    → sendings k (new_chart window c.requesters) ts ≡ beginnings k (new_chart window c.requesters) ts ++ packets_left k (told_all (new_chart window c.requesters) ts).courses
new_sent read asking stay c window ts k f left sound new h =
    let v : ChartView = new_chart window c.requesters in
    sym (ap (λ (t : List (Option PacketSent)). t ++ sendings k v ts) (none_on packets_of 16 k refl)) ∙ all_sent read asking stay ts v k f left sound (accounts_new c f window new) h

pub new_sent_back : AreRead → AreAsking → StaySound → (c : Config) (window : ChartWindow) (ts : List Tale) (k : ℕ) (f left : Fabric) → IsSoundFabric f → IsNewWith c f → Happen f ts left
    → dllp_sendings k (new_chart window c.requesters) ts ≡ dllp_beginnings k (new_chart window c.requesters) ts ++ dllps_left k (told_all (new_chart window c.requesters) ts).courses
new_sent_back read asking stay c window ts k f left sound new h =
    let v : ChartView = new_chart window c.requesters in
    sym (ap (λ (t : List (Option DllpSent)). t ++ dllp_sendings k v ts) (none_on dllps_of 16 k refl)) ∙ all_sent_back read asking stay ts v k f left sound (accounts_new c f window new) h
