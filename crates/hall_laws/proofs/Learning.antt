-- What an event adds to the trace, what its seat learns, and that the configuration stays.
use Rattle.std.proofs.Common.{◌≡◌, ℕ, zero, suc, ◌<◌, Bool, true, false, List, [], ◌∷◌, ◌++◌, length, length-set, length-append, refl, ap, ◌∙◌, subst, arith, Some, None, Option, Result, Ok, Err}
use Rattle.std.specs.Prelude.{slice_get, if◌then◌else◌, is_some}
use Rattle.std.specs.Option.{option_map_or}
use Rattle.tlp_core.specs.Ops.{Op}
use Rattle.tlp_core.specs.TlpView.{TlpView}
use Rattle.tlp_core.specs.Operation.{is_posted, op_of}
use Rattle.seq_memory.specs.Entries.{Entry}
use Rattle.seq_memory.specs.History.{MemoryView}
use Rattle.requester_core.specs.Answers.{Answer}
use Rattle.requester_core.specs.RequesterView.{RequesterView}
use Rattle.completer_core.specs.Serving.{completion_to, after_serving, request_entry, with_entry}
use Rattle.flow_control.specs.Queue.{Item, is_takeable}
use Rattle.lane_core.specs.Steps.{LaneEndsView, ReceiverEndView, SenderEndView}
use Rattle.lane_core.specs.Calls.{content}
use Rattle.history_words.specs.Records.{Record}
use Rattle.history_words.specs.declared.record.RecordOf.TheVariants.{Sub, Ans}
use Rattle.fabric_steps.specs.Lists.{Each}
use Rattle.fabric_steps.specs.Fabric.{Fabric}
use Rattle.fabric_steps.specs.Routed.{IsRouted}
use Rattle.fabric_core.specs.declared.config.Config.{Config}
use Rattle.fabric_steps.specs.Event.{Event, Seen}
use Rattle.fabric_steps.specs.declared.event.EventOf.TheVariants as events
use Rattle.fabric_steps.specs.declared.event.LaneName.{LaneName}
use Rattle.fabric_steps.specs.declared.event.LaneName.TheVariants as lanes
use Rattle.fabric_steps.specs.declared.event.LinkEvent.{LinkEvent}
use Rattle.fabric_steps.specs.declared.event.LinkEvent.TheVariants as links
use Rattle.fabric_steps.specs.declared.fault.Refusal.{Refusal}
use Rattle.fabric_steps.specs.declared.fault.Refusal.TheVariants as refusals
use Rattle.fabric_core.specs.Answers.{and_then, map_ok, some_or, item_at, enter_if_any, act_on, serve_on, submit_on, collect_on, destination_on, forward_on, link_on, link_at, part_at, lane_at, with_lane, with_requester, port_from, lane_to, or_no_port, answer, Happens}
use Rattle.fabric_core.specs.Kept.{records_of}
use Rattle.hall_laws.proofs.Lists.{get_before}
use Rattle.hall_laws.specs.declared.token.Knowledge.{Knowledge}
use Rattle.hall_laws.specs.Waiting.{requester_in, without}
use Rattle.hall_laws.specs.Rule.{HasConfig, learned}

-- ---- what holds of an answer

of_map : {A B : Type 0} (P : B → Type 0) (a : Result A Refusal) (g : A → B) (y : B) → ((x : A) → a ≡ Ok x → P (g x)) → map_ok a g ≡ Ok y → P y
of_map P (Ok x) g y each h = let is : g x ≡ y = cc in subst P is (each x refl)
of_map P (Err r) g y each h = absurd cc

of_then : {A B : Type 0} (P : B → Type 0) (a : Result A Refusal) (g : A → Result B Refusal) (y : B) → ((x : A) → a ≡ Ok x → g x ≡ Ok y → P y) → and_then a g ≡ Ok y → P y
of_then P (Ok x) g y each h = each x refl h
of_then P (Err r) g y each h = absurd cc

item_there : (r : ReceiverEndView) (place : ℕ) (x : Item) → item_at r place ≡ Ok x → slice_get r.queue place ≡ Some x
item_there r place x h = by_test (is_takeable r.queue place) (slice_get r.queue place) h
  where
    by_test : (b : Bool) (o : Option Item) → (if b then some_or refusals.NotTakeable o else Err refusals.NotTakeable) ≡ Ok x → o ≡ Some x
    by_test true (Some y) e = cc
    by_test true None e = absurd cc
    by_test false o e = absurd cc

-- of a request that acted
abbrev Served : ReceiverEndView → ℕ → MemoryView → ℕ × ReceiverEndView × MemoryView × SenderEndView → Type 0
Served r place m y = (x : Item) × (slice_get r.queue place ≡ Some x) × (y.0 ≡ length m.entries) × (y.2 ≡ after_serving m x.0 x.1)

served : (r : ReceiverEndView) (place : ℕ) (m : MemoryView) (s : SenderEndView) (y : ℕ × ReceiverEndView × MemoryView × SenderEndView) → serve_on r place m s ≡ Ok y → Served r place m y
served r place m s y h =
    of_then (Served r place m) (item_at r place) _ y
    (λ x there. of_map (Served r place m) (act_on m x.0 x.1 s) _ y
    (λ z did. let now = of_map (λ (z : ℕ × MemoryView × SenderEndView). (z.0 ≡ length m.entries) × (z.1 ≡ after_serving m x.0 x.1)) (enter_if_any s (completion_to m x.0) x.1) _ z (λ s' in_lane. (refl, refl)) did in
    (x, item_there r place x there, now.0, now.1))) h

-- ---- the configuration stays

serving_keeps : (m : MemoryView) (t : TlpView) (mark : ℕ) → ((after_serving m t mark).base ≡ m.base) × ((after_serving m t mark).size ≡ m.size) × ((after_serving m t mark).block ≡ m.block)
serving_keeps m t mark = kept (op_of t)
  where
    kept : (o : Option Op) → ((option_map_or (λ op. with_entry m (request_entry t mark op)) o m).base ≡ m.base) × ((option_map_or (λ op. with_entry m (request_entry t mark op)) o m).size ≡ m.size) × ((option_map_or (λ op. with_entry m (request_entry t mark op)) o m).block ≡ m.block)
    kept None = (refl, refl, refl)
    kept (Some op) = (refl, refl, refl)

module _ (c : Config) where
  abbrev Still : Seen × Fabric → Type 0
  Still y = HasConfig y.1 c

  lane_config : (f : Fabric) (name : LaneName) (e : LaneEndsView) → HasConfig f c → HasConfig (with_lane f name e) c
  lane_config f (lanes.Up port) e h = record { requesters = h.requesters; base = h.base; size = h.size; block = h.block; credits = h.credits }
  lane_config f (lanes.Down port) e h = record { requesters = h.requesters; base = h.base; size = h.size; block = h.block; credits = h.credits }
  lane_config f lanes.Inward e h = record { requesters = h.requesters; base = h.base; size = h.size; block = h.block; credits = h.credits }
  lane_config f lanes.Outward e h = record { requesters = h.requesters; base = h.base; size = h.size; block = h.block; credits = h.credits }

  requester_config : (f : Fabric) (port : ℕ) (q : RequesterView) → HasConfig f c → HasConfig (with_requester f port q) c
  requester_config f zero q h = record { requesters = h.requesters; base = h.base; size = h.size; block = h.block; credits = h.credits }
  requester_config f (suc i) q h = record { requesters = length-set f.requesters i q ∙ h.requesters; base = h.base; size = h.size; block = h.block; credits = h.credits }

  serving_config : (f : Fabric) (place : ℕ) (y : ℕ × ReceiverEndView × MemoryView × SenderEndView) → Served f.inward.receiver place f.memory y → HasConfig f c
      → HasConfig (record f { memory = y.2; inward = record f.inward { receiver = y.1 }; outward = record f.outward { sender = y.3 } }) c
  serving_config f place y (x, there, at, m) h =
      let k = serving_keeps f.memory x.0 x.1 in
      record { requesters = h.requesters; base = ap (λ (s : MemoryView). s.base) m ∙ (k.0 ∙ h.base); size = ap (λ (s : MemoryView). s.size) m ∙ (k.1 ∙ h.size); block = ap (λ (s : MemoryView). s.block) m ∙ (k.2 ∙ h.block); credits = h.credits }

  link_config : (f : Fabric) (name : LaneName) (event : LinkEvent) (y : Seen × Fabric) → link_at f name event ≡ Ok y → HasConfig f c → HasConfig y.1 c
  link_config f name event y x h = of_then Still (lane_at f name) _ y (λ e there. of_map Still (link_on e event) _ y (λ z did. lane_config f name z.1 h)) x

  answer_config : (f : Fabric) (event : Event) (y : Seen × Fabric) → answer f event ≡ Ok y → HasConfig f c → HasConfig y.1 c
  answer_config f (events.Submit port op) y x h = of_then Still (part_at f.requesters port) _ y
      (λ q here. of_then Still (lane_at f (lanes.Up port)) _ y
      (λ e there. of_map Still (submit_on q e.sender op) _ y (λ z did. requester_config (with_lane f (lanes.Up port) (record e { sender = z.2 })) port z.1 (lane_config f (lanes.Up port) (record e { sender = z.2 }) h)))) x
  answer_config f (events.Transmit lane) y x h = link_config f lane links.Transmit y x h
  answer_config f (events.Deliver lane fate) y x h = link_config f lane (links.Deliver fate) y x h
  answer_config f (events.SendDllp lane kind) y x h = link_config f lane (links.SendDllp kind) y x h
  answer_config f (events.DeliverDllp lane fate) y x h = link_config f lane (links.DeliverDllp fate) y x h
  answer_config f (events.Timer lane) y x h = link_config f lane links.Timer y x h
  answer_config f (events.Retrained lane) y x h = link_config f lane links.Retrained y x h
  answer_config f (events.Forward lane place) y x h = of_then Still (port_from lane) _ y
      (λ from is. of_then Still (lane_at f lane) _ y
      (λ e here. of_then Still (destination_on e.receiver place from) _ y
      (λ to routed. of_then Still (or_no_port (lane_at f (lane_to to))) _ y
      (λ n there. of_map Still (forward_on e.receiver place n.sender) _ y (λ z did. lane_config (with_lane f lane (record e { receiver = z.0 })) (lane_to to) (record n { sender = z.1 }) (lane_config f lane (record e { receiver = z.0 }) h)))))) x
  answer_config f (events.Serve place) y x h = of_map Still (serve_on f.inward.receiver place f.memory f.outward.sender) _ y (λ z did. serving_config f place z (served f.inward.receiver place f.memory f.outward.sender z did) h) x
  answer_config f (events.Collect port) y x h = of_then Still (part_at f.requesters port) _ y
      (λ q here. of_then Still (lane_at f (lanes.Down port)) _ y
      (λ e there. of_map Still (collect_on e.receiver q) _ y (λ z did. requester_config (with_lane f (lanes.Down port) (record e { receiver = z.1 })) port z.2 (lane_config f (lanes.Down port) (record e { receiver = z.1 }) h)))) x

pub config_stays : (f : Fabric) (event : Event) (what : Seen) (f' : Fabric) (c : Config) → Happens f event what f' → HasConfig f c → HasConfig f' c
config_stays f event what f' c x h = answer_config c f event (what, f') x.0 h

-- ---- the memory stays, but at a serving

pub submit_memory : (f : Fabric) (port : ℕ) (op : Op) (what : Seen) (f' : Fabric) → Happens f (events.Submit port op) what f' → f'.memory ≡ f.memory
submit_memory f port op what f' x = of_then (λ (y : Seen × Fabric). y.1.memory ≡ f.memory) (part_at f.requesters port) _ (what, f')
    (λ q here. of_then (λ (y : Seen × Fabric). y.1.memory ≡ f.memory) (lane_at f (lanes.Up port)) _ (what, f') (λ e there. of_map (λ (y : Seen × Fabric). y.1.memory ≡ f.memory) (submit_on q e.sender op) _ (what, f') (λ z did. refl))) x.0

pub collect_memory : (f : Fabric) (port : ℕ) (what : Seen) (f' : Fabric) → Happens f (events.Collect port) what f' → f'.memory ≡ f.memory
collect_memory f port what f' x = of_then (λ (y : Seen × Fabric). y.1.memory ≡ f.memory) (part_at f.requesters port) _ (what, f')
    (λ q here. of_then (λ (y : Seen × Fabric). y.1.memory ≡ f.memory) (lane_at f (lanes.Down port)) _ (what, f') (λ e there. of_map (λ (y : Seen × Fabric). y.1.memory ≡ f.memory) (collect_on e.receiver q) _ (what, f') (λ z did. refl))) x.0

-- ---- the four kinds of event, by what the seat learns

pub data Learning (h : List Entry) (event : Event) (what : Seen) (w : Knowledge) (h' : List Entry) : Type 0 where
  silent : records_of event what (length h) ≡ [] → learned event what h w ≡ w → Learning h event what w h'
  submits : (op : Op) (k : ℕ) → records_of event what (length h) ≡ Sub (suc w.number) k op (length h) ∷ []
      → learned event what h w ≡ record w { seen = h; made = w.made ++ op ∷ []; pending = if is_posted op then w.pending else w.pending ++ (k, length h) ∷ []; records = w.records ++ Sub (suc w.number) k op (length h) ∷ [] } → Learning h event what w h'
  collects : (a : Answer) → records_of event what (length h) ≡ Ans (suc w.number) a.number a.reply (length h) ∷ []
      → learned event what h w ≡ record w { seen = h; pending = without a.number w.pending; records = w.records ++ Ans (suc w.number) a.number a.reply (length h) ∷ [] } → Learning h event what w h'
  serves : records_of event what (length h) ≡ [] → learned event what h w ≡ record w { served = w.served ++ length h ∷ [] } → length h < length h' → Learning h event what w h'

grown : (m : MemoryView) (t : TlpView) (mark : ℕ) → is_some (op_of t) ≡ true → length m.entries < length (after_serving m t mark).entries
grown m t mark e = go (op_of t) e
  where
    go : (o : Option Op) → is_some o ≡ true → length m.entries < length (option_map_or (λ op. with_entry m (request_entry t mark op)) o m).entries
    go None n = absurd (cc)
    go (Some op) n = let l = length-append m.entries (request_entry t mark op ∷ []) in omega arith

module _ (asks : (f : Fabric) (place mark : ℕ) (t : TlpView) → IsRouted f → slice_get (content f.inward) place ≡ Some (t, mark) → is_some (op_of t) ≡ true) where
  -- what is seen, and what the fabric is then
  abbrev Told : List Entry → Event → Knowledge → Seen × Fabric → Type 0
  Told h event w y = ((n : ℕ) → Each (λ (r : Record). requester_in r ≡ suc w.number) (records_of event y.0 n)) → Learning h event y.0 w y.1.memory.entries

  pub learning : (f : Fabric) (event : Event) (what : Seen) (f' : Fabric) (w : Knowledge) → IsRouted f → Happens f event what f'
      → ((n : ℕ) → Each (λ (r : Record). requester_in r ≡ suc w.number) (records_of event what n)) → Learning f.memory.entries event what w f'.memory.entries
  learning f (events.Submit port op) what f' w r x own =
      let P : Seen × Fabric → Type 0 = Told f.memory.entries (events.Submit port op) w in
      of_then P (part_at f.requesters port) _ (what, f')
      (λ q here. of_then P (lane_at f (lanes.Up port)) _ (what, f')
      (λ e there. of_map P (submit_on q e.sender op) _ (what, f') (λ z did mine. submits op z.0 (ap (λ (i : ℕ). Sub i z.0 op (length f.memory.entries) ∷ []) (mine 0).0) refl))) x.0 own
  learning f (events.Transmit lane) what f' w r x own = silent refl refl
  learning f (events.Deliver lane fate) what f' w r x own = silent refl refl
  learning f (events.SendDllp lane kind) what f' w r x own = silent refl refl
  learning f (events.DeliverDllp lane fate) what f' w r x own = silent refl refl
  learning f (events.Timer lane) what f' w r x own = silent refl refl
  learning f (events.Retrained lane) what f' w r x own = silent refl refl
  learning f (events.Forward lane place) what f' w r x own = silent refl refl
  learning f (events.Serve place) what f' w r x own =
      let h : List Entry = f.memory.entries in
      of_map (Told h (events.Serve place) w) (serve_on f.inward.receiver place f.memory f.outward.sender) _ (what, f')
      (λ z did mine.
      let (y, there, at, m) = served f.inward.receiver place f.memory f.outward.sender z did in
      let some_op : is_some (op_of y.0) ≡ true = asks f place y.1 y.0 r (get_before f.inward.receiver.queue _ place y there) in
      let longer : length h < length (after_serving f.memory y.0 y.1).entries = grown f.memory y.0 y.1 some_op in
      let same : length z.2.entries ≡ length (after_serving f.memory y.0 y.1).entries = ap (λ (s : MemoryView). length s.entries) m in
      serves refl (ap (λ (n : ℕ). record w { served = w.served ++ n ∷ [] }) at) (omega arith)) x.0 own
  learning f (events.Collect port) what f' w r x own =
      let P : Seen × Fabric → Type 0 = Told f.memory.entries (events.Collect port) w in
      of_then P (part_at f.requesters port) _ (what, f')
      (λ q here. of_then P (lane_at f (lanes.Down port)) _ (what, f')
      (λ e there. of_map P (collect_on e.receiver q) _ (what, f') (λ z did mine. collects z.0 (ap (λ (i : ℕ). Ans i z.0.number z.0.reply (length f.memory.entries) ∷ []) (mine 0).0) refl))) x.0 own
