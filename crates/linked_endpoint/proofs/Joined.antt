-- A device and its port after any calls: the device's calls and the port's are those of one run.
use Rattle.std.proofs.Common.{◌≡◌, ℕ, ◌+◌, ◌-◌, Bool, true, false, List, [], ◌∷◌, ◌++◌, length, map, drop, Option, Some, None, refl, sym, subst, ap, ap₂, ◌∙◌, length-append}
use Rattle.std.specs.Prelude.{◌&&◌, is_none, if◌then◌else◌, slice_get, remove}
use Rattle.std.proofs.lemmas.List.{append-nil, map-append, length-drop}
use Rattle.std.proofs.lemmas.List.Sums.{fold-append}
use Rattle.std.proofs.lemmas.List.Elements.{filter_map-append}
use Rattle.std.proofs.lemmas.Grind.{flat_map-append}
use Rattle.tlp_core.specs.TlpView.{TlpView}
use Rattle.flow_control.specs.declared.needs.Need.{Need}
use Rattle.flow_control.specs.declared.limits.LaneCredits.{LaneCredits}
use Rattle.flow_control.specs.Needs.{need_of}
use Rattle.link_replay.specs.CargoView.{CargoView}
use Rattle.lane_core.specs.Content.{cargo_of}
use Rattle.link_crc.specs.declared.check.Check.{Check}
use Rattle.port_core.specs.declared.fault.EnterRefusal.{EnterRefusal}
use Rattle.port_core.specs.declared.incoming.Received.{Received}
use Rattle.port_core.specs.declared.incoming.Received.TheVariants as arrivals
use Rattle.port_core.specs.Incoming.{number_in, tlp_in}
use Rattle.port_core.specs.Port as port
use Rattle.port_core.specs.Port.{PortView}
use Rattle.port_core.specs.Runs as ports
use Rattle.port_core.specs.Runs.{AreBytes, Story, story_of, story_in}
use Rattle.config_core.specs.SetupView.{SetupView}
use Rattle.endpoint_core.specs.EndpointView.{EndpointView}
use Rattle.endpoint_core.specs.Steps as device
use Rattle.endpoint_core.specs.Runs as devices
use Rattle.linked_endpoint.specs.LinkedView.{LinkedView}
use Rattle.linked_endpoint.specs.Linked.{with_port, taken_if, freed_front, given_back, is_waiting, is_taken, after_arrival, may_go, may_act, is_last, acted, refusal_for, entered_with}
use Rattle.linked_endpoint.specs.Runs.{Call, Up, Down, Receive, ReceiveDllp, Act, Enter, Next, Refresh, Replay, Retrained, IsCall, AreCalls, entered_unless, after_call, somes, frees, frees_last, frees_first, enters, calls_of_port, AcceptedPacket, Run, new_run, accepted_in, takes_if, list_of, calls_of_device, accepted_by, completed_by, anew, goes_on, run_by, runs_by, run_in, story, tlp_within, tlps_within, taken_by, taken_in, cargos_of}
use Rattle.linked_endpoint.proofs.Waiting.{as-many, fewer, more-wait, no-more-wait}

-- a device and its port, whose story since the link came up last is s, and what they did
pub record IsJoined (l : LinkedView) (s : Story) (start : EndpointView) (calls : List devices.Call) (accepted : List AcceptedPacket) (completed : List TlpView) : Type 0 where
  pub port_is : l.port ≡ s.port
  pub accepted_are : map (λ a. (a.number, a.tlp)) accepted ≡ s.accepted
  pub needs_are : somes l.needs ≡ s.held
  pub counted : length l.needs ≡ length l.endpoint.waiting
  pub entered_are : cargos_of completed ≡ s.entered ++ cargos_of (list_of l.held)
  pub taken_are : taken_in calls ≡ tlps_within accepted
  pub device_is : l.endpoint ≡ devices.after_calls start calls

-- ---- lists

get-last : (xs : List Need) (x : Need) → slice_get (xs ++ x ∷ []) (length xs) ≡ Some x
get-last [] x = refl
get-last (y ∷ ys) x = get-last ys x

remove-last : (xs : List Need) (x : Need) → remove (xs ++ x ∷ []) (length xs) ≡ xs
remove-last [] x = refl
remove-last (y ∷ ys) x = ap (λ (zs : List Need). y ∷ zs) (remove-last ys x)

somes-more : (needs : List (Option Need)) (need : Option Need) → somes (needs ++ need ∷ []) ≡ somes needs ++ somes (need ∷ [])
somes-more needs need = filter_map-append (λ (n : Option Need). n) needs (need ∷ [])

abbrev packet_of : AcceptedPacket → ℕ × List ℕ
packet_of a = (a.number, a.tlp)

packets-more : (accepted more : List AcceptedPacket) → map packet_of (accepted ++ more) ≡ map packet_of accepted ++ map packet_of more
packets-more accepted more = map-append packet_of accepted more

cargos-more : (completed more : List TlpView) → cargos_of (completed ++ more) ≡ cargos_of completed ++ cargos_of more
cargos-more completed more = map-append (λ (t : TlpView). cargo_of t 0) completed more

-- ---- a call that the device doesn't see

-- the story goes on with what neither holds credits nor enters
same-joined : (l : LinkedView) (s t : Story) (q : PortView) (start : EndpointView) (calls : List devices.Call) (accepted : List AcceptedPacket) (completed : List TlpView)
    → t.port ≡ q → t.accepted ≡ s.accepted → t.held ≡ s.held → t.entered ≡ s.entered → IsJoined l s start calls accepted completed
    → IsJoined (with_port l q) t start (calls ++ []) (accepted ++ []) (completed ++ [])
same-joined l s t q start calls accepted completed p a h e i =
    rw (append-nil calls, append-nil accepted, append-nil completed)
    (record {
      port_is = sym p;
      accepted_are = i.accepted_are ∙ sym a;
      needs_are = i.needs_are ∙ sym h;
      counted = i.counted;
      entered_are = i.entered_are ∙ ap (λ (xs : List CargoView). xs ++ cargos_of (list_of l.held)) (sym e);
      taken_are = i.taken_are;
      device_is = i.device_is;
    })

-- ---- a packet arrives

-- the story after a packet of which this becomes
abbrev arrived_story : Received → Story → PortView → List ℕ → Story
arrived_story r s q packet =
    record {
      port = q;
      accepted = s.accepted ++ ports.accepted_if r packet;
      held = s.held ++ ports.holding_in r;
      freed = s.freed ++ ports.overflowing_in r;
      entered = s.entered;
      used = s.used;
      heard = s.heard;
    }

lost-joined : (l : LinkedView) (s : Story) (q : PortView) (freed_too : List Need) (start : EndpointView) (calls : List devices.Call) (accepted : List AcceptedPacket) (completed : List TlpView)
    → IsJoined l s start calls accepted completed
    → IsJoined (with_port l q) (record { port = q; accepted = s.accepted ++ []; held = s.held ++ []; freed = freed_too; entered = s.entered; used = s.used; heard = s.heard }) start (calls ++ []) (accepted ++ []) (completed ++ [])
lost-joined l s q freed_too start calls accepted completed i =
    same-joined l s _ q start calls accepted completed refl (append-nil s.accepted) (append-nil s.held) refl i

abbrev one_packet : List ℕ → Bool → AcceptedPacket
one_packet packet overflows = record { number = number_in packet; tlp = tlp_in packet; overflows = overflows }

packets-with : (s : Story) (accepted : List AcceptedPacket) (packet : List ℕ) (overflows : Bool) → map packet_of accepted ≡ s.accepted
    → map packet_of (accepted ++ one_packet packet overflows ∷ []) ≡ s.accepted ++ (number_in packet, tlp_in packet) ∷ []
packets-with s accepted packet overflows e =
    packets-more accepted (one_packet packet overflows ∷ []) ∙ ap (λ (xs : List (ℕ × List ℕ)). xs ++ (number_in packet, tlp_in packet) ∷ []) e

-- more than was advertised: the device doesn't see it
overflow-joined : (l : LinkedView) (s : Story) (q : PortView) (packet : List ℕ) (held freed_too : List Need) (start : EndpointView) (calls : List devices.Call) (accepted : List AcceptedPacket) (completed : List TlpView)
    → held ≡ [] → IsJoined l s start calls accepted completed
    → IsJoined (with_port l q) (record { port = q; accepted = s.accepted ++ (number_in packet, tlp_in packet) ∷ []; held = s.held ++ held; freed = freed_too; entered = s.entered; used = s.used; heard = s.heard })
    start (calls ++ []) (accepted ++ one_packet packet true ∷ []) (completed ++ [])
overflow-joined l s q packet held freed_too start calls accepted completed e i =
    rw (append-nil calls, append-nil completed)
    (record {
      port_is = refl;
      accepted_are = packets-with s accepted packet true i.accepted_are;
      needs_are = i.needs_are ∙ sym (append-nil s.held) ∙ ap (λ (xs : List Need). s.held ++ xs) (sym e);
      counted = i.counted;
      entered_are = i.entered_are;
      taken_are = i.taken_are ∙ sym (flat_map-append tlp_within accepted (one_packet packet true ∷ []) ∙ append-nil (tlps_within accepted));
      device_is = i.device_is;
    })

takes-more : (calls : List devices.Call) (tlp : List ℕ) (accepted : List AcceptedPacket) (packet : List ℕ) → tlp ≡ tlp_in packet → taken_in calls ≡ tlps_within accepted
    → taken_in (calls ++ devices.Take tlp ∷ []) ≡ tlps_within (accepted ++ one_packet packet false ∷ [])
takes-more calls tlp accepted packet e h =
    flat_map-append taken_by calls (devices.Take tlp ∷ [])
    ∙ ap₂ (λ (xs : List (List ℕ)) (x : List ℕ). xs ++ x ∷ []) h e
    ∙ sym (flat_map-append tlp_within accepted (one_packet packet false ∷ []))

device-more : (start e : EndpointView) (calls : List devices.Call) (call : devices.Call) → e ≡ devices.after_calls start calls
    → devices.after_call e call ≡ devices.after_calls start (calls ++ call ∷ [])
device-more start e calls call h =
    ap (λ (x : EndpointView). devices.after_call x call) h ∙ sym (fold-append devices.after_call start calls (call ∷ []))

-- the device takes it: the story with these credits held
taken-joined : (l : LinkedView) (s t : Story) (q : PortView) (needs : List (Option Need)) (packet : List ℕ) (start : EndpointView) (calls : List devices.Call) (accepted : List AcceptedPacket) (completed : List TlpView)
    → t.port ≡ q → t.accepted ≡ s.accepted ++ (number_in packet, tlp_in packet) ∷ [] → t.entered ≡ s.entered → somes needs ≡ t.held
    → length needs ≡ length (device.taken l.endpoint (tlp_in packet)).waiting → IsJoined l s start calls accepted completed
    → IsJoined (record { port = q; endpoint = device.taken l.endpoint (tlp_in packet); needs = needs; held = l.held }) t start (calls ++ devices.Take (tlp_in packet) ∷ []) (accepted ++ one_packet packet false ∷ []) (completed ++ [])
taken-joined l s t q needs packet start calls accepted completed p a e n c i =
    rw (append-nil completed)
    (record {
      port_is = sym p;
      accepted_are = packets-with s accepted packet false i.accepted_are ∙ sym a;
      needs_are = n;
      counted = c;
      entered_are = i.entered_are ∙ ap (λ (xs : List CargoView). xs ++ cargos_of (list_of l.held)) (sym e);
      taken_are = takes-more calls (tlp_in packet) accepted packet refl i.taken_are;
      device_is = device-more start l.endpoint calls (devices.Take (tlp_in packet)) i.device_is;
    })

waits-joined : (need : Option Need) (l : LinkedView) (s : Story) (q : PortView) (packet : List ℕ) (start : EndpointView) (calls : List devices.Call) (accepted : List AcceptedPacket) (completed : List TlpView)
    → is_waiting (device.handled l.endpoint (tlp_in packet)) ≡ true → IsJoined l s start calls accepted completed
    → IsJoined (taken_if true l q need (tlp_in packet)) (arrived_story (arrivals.Accepted need false) s q packet) start (calls ++ devices.Take (tlp_in packet) ∷ []) (accepted ++ one_packet packet false ∷ []) (completed ++ [])
waits-joined need l s q packet start calls accepted completed w i =
    taken-joined l s (arrived_story (arrivals.Accepted need false) s q packet) q (l.needs ++ need ∷ []) packet start calls accepted completed refl refl refl
    (somes-more l.needs need ∙ ap (λ (xs : List Need). xs ++ somes (need ∷ [])) i.needs_are ∙ ap (λ (xs : List Need). s.held ++ xs) (held-by need))
    (length-append l.needs (need ∷ []) ∙ ap (λ (n : ℕ). n + 1) i.counted ∙ sym (more-wait l.endpoint (tlp_in packet) w)) i
  where
    held-by : (need : Option Need) → somes (need ∷ []) ≡ ports.holding_in (arrivals.Accepted need false)
    held-by None = refl
    held-by (Some n) = refl

-- credits go back
abbrev freed_of : Story → Need → List Need → Story
freed_of t n left = record t { port = port.after_free t.port n; held = left; freed = t.freed ++ n ∷ [] }

freeing : (o : Option Need) (t : Story) (place : ℕ) (n : Need) (left : List Need) → o ≡ Some n → remove t.held place ≡ left → ports.without_held t place o ≡ freed_of t n left
freeing None t place n left e r = cc
freeing (Some m) t place n left e r =
    let same : m ≡ n = cc in
    ap₂ (λ (x : Need) (h : List Need). freed_of t x h) same r

-- those of the last packet, at once
last-freed : (s : Story) (q : PortView) (packet : List ℕ) (n : Need) (place : ℕ) → place ≡ length s.held
    → ports.after_call (arrived_story (arrivals.Accepted (Some n) false) s q packet) (ports.Free place) ≡ freed_of (arrived_story (arrivals.Accepted (Some n) false) s q packet) n s.held
last-freed s q packet n place e =
    freeing (slice_get (s.held ++ n ∷ []) place) (arrived_story (arrivals.Accepted (Some n) false) s q packet) place n s.held
    (ap (λ (i : ℕ). slice_get (s.held ++ n ∷ []) i) e ∙ get-last s.held n)
    (ap (λ (i : ℕ). remove (s.held ++ n ∷ []) i) e ∙ remove-last s.held n)

free-joined : (need : Option Need) (l : LinkedView) (s : Story) (q : PortView) (packet : List ℕ) (start : EndpointView) (calls : List devices.Call) (accepted : List AcceptedPacket) (completed : List TlpView)
    → is_waiting (device.handled l.endpoint (tlp_in packet)) ≡ false → IsJoined l s start calls accepted completed
    → IsJoined (taken_if false l q need (tlp_in packet)) (ports.after_calls (arrived_story (arrivals.Accepted need false) s q packet) (frees (length (somes l.needs)) need)) start (calls ++ devices.Take (tlp_in packet) ∷ []) (accepted ++ one_packet packet false ∷ []) (completed ++ [])
free-joined None l s q packet start calls accepted completed w i =
    taken-joined l s (arrived_story (arrivals.Accepted None false) s q packet) q l.needs packet start calls accepted completed refl refl refl
    (i.needs_are ∙ sym (append-nil s.held)) (i.counted ∙ sym (no-more-wait l.endpoint (tlp_in packet) w)) i
free-joined (Some n) l s q packet start calls accepted completed w i =
    subst (λ (t : Story). IsJoined (taken_if false l q (Some n) (tlp_in packet)) t start (calls ++ devices.Take (tlp_in packet) ∷ []) (accepted ++ one_packet packet false ∷ []) (completed ++ []))
    (sym (last-freed s q packet n (length (somes l.needs)) (ap length i.needs_are)))
    (taken-joined l s (freed_of (arrived_story (arrivals.Accepted (Some n) false) s q packet) n s.held) (port.after_free q n) l.needs packet start calls accepted completed refl refl refl
    i.needs_are (i.counted ∙ sym (no-more-wait l.endpoint (tlp_in packet) w)) i)

handed-joined : (w : Bool) (need : Option Need) (l : LinkedView) (s : Story) (q : PortView) (packet : List ℕ) (start : EndpointView) (calls : List devices.Call) (accepted : List AcceptedPacket) (completed : List TlpView)
    → is_waiting (device.handled l.endpoint (tlp_in packet)) ≡ w → IsJoined l s start calls accepted completed
    → IsJoined (taken_if w l q need (tlp_in packet)) (ports.after_calls (arrived_story (arrivals.Accepted need false) s q packet) (if w then [] else frees (length (somes l.needs)) need)) start (calls ++ devices.Take (tlp_in packet) ∷ []) (accepted ++ one_packet packet false ∷ []) (completed ++ [])
handed-joined true need l s q packet start calls accepted completed w i = waits-joined need l s q packet start calls accepted completed w i
handed-joined false need l s q packet start calls accepted completed w i = free-joined need l s q packet start calls accepted completed w i

no-held : (need : Option Need) → ports.holding_in (arrivals.Accepted need true) ≡ []
no-held None = refl
no-held (Some n) = refl

arrived-joined : (r : Received) (l : LinkedView) (s : Story) (q : PortView) (packet : List ℕ) (start : EndpointView) (calls : List devices.Call) (accepted : List AcceptedPacket) (completed : List TlpView)
    → IsJoined l s start calls accepted completed
    → IsJoined (after_arrival r l q (tlp_in packet)) (ports.after_calls (arrived_story r s q packet) (frees_last l r (tlp_in packet))) start (calls ++ takes_if (is_taken r) (tlp_in packet)) (accepted ++ accepted_in r packet) (completed ++ [])
arrived-joined arrivals.Dropped l s q packet start calls accepted completed i = lost-joined l s q _ start calls accepted completed i
arrived-joined arrivals.Duplicate l s q packet start calls accepted completed i = lost-joined l s q _ start calls accepted completed i
arrived-joined arrivals.NakNow l s q packet start calls accepted completed i = lost-joined l s q _ start calls accepted completed i
arrived-joined arrivals.Quiet l s q packet start calls accepted completed i = lost-joined l s q _ start calls accepted completed i
arrived-joined (arrivals.Accepted need true) l s q packet start calls accepted completed i =
    overflow-joined l s q packet (ports.holding_in (arrivals.Accepted need true)) _ start calls accepted completed (no-held need) i
arrived-joined (arrivals.Accepted need false) l s q packet start calls accepted completed i =
    handed-joined (is_waiting (device.handled l.endpoint (tlp_in packet))) need l s q packet start calls accepted completed refl i

-- ---- a request acts

-- the story with these credits held
acts-joined : (l : LinkedView) (s t : Story) (q : PortView) (needs : List (Option Need)) (start : EndpointView) (calls : List devices.Call) (accepted : List AcceptedPacket) (completed : List TlpView)
    → t.port ≡ q → t.accepted ≡ s.accepted → t.entered ≡ s.entered → somes needs ≡ t.held → length needs ≡ length (device.acted l.endpoint).waiting → l.held ≡ None
    → IsJoined l s start calls accepted completed
    → IsJoined (record { port = q; endpoint = device.acted l.endpoint; needs = needs; held = device.next_completion l.endpoint }) t start (calls ++ devices.Act ∷ []) (accepted ++ []) (completed ++ list_of (device.next_completion l.endpoint))
acts-joined l s t q needs start calls accepted completed p a e n c none i =
    let before : cargos_of completed ≡ s.entered = i.entered_are ∙ ap (λ (h : Option TlpView). s.entered ++ cargos_of (list_of h)) none ∙ append-nil s.entered in
    rw (append-nil accepted)
    (record {
      port_is = sym p;
      accepted_are = i.accepted_are ∙ sym a;
      needs_are = n;
      counted = c;
      entered_are = cargos-more completed (list_of (device.next_completion l.endpoint)) ∙ ap (λ (xs : List CargoView). xs ++ cargos_of (list_of (device.next_completion l.endpoint))) (before ∙ sym e);
      taken_are = flat_map-append taken_by calls (devices.Act ∷ []) ∙ append-nil (taken_in calls) ∙ i.taken_are;
      device_is = device-more start l.endpoint calls devices.Act i.device_is;
    })

first-freed : (needs : List (Option Need)) (l : LinkedView) (s : Story) (start : EndpointView) (calls : List devices.Call) (accepted : List AcceptedPacket) (completed : List TlpView)
    → somes needs ≡ s.held → length (drop 1 needs) ≡ length (device.acted l.endpoint).waiting → l.held ≡ None → IsJoined l s start calls accepted completed
    → IsJoined (record { port = freed_front s.port needs; endpoint = device.acted l.endpoint; needs = drop 1 needs; held = device.next_completion l.endpoint }) (ports.after_calls s (frees_first needs)) start (calls ++ devices.Act ∷ []) (accepted ++ []) (completed ++ list_of (device.next_completion l.endpoint))
first-freed [] l s start calls accepted completed h c none i = acts-joined l s s s.port [] start calls accepted completed refl refl refl h c none i
first-freed (None ∷ needs) l s start calls accepted completed h c none i = acts-joined l s s s.port needs start calls accepted completed refl refl refl h c none i
first-freed (Some n ∷ needs) l s start calls accepted completed h c none i =
    subst (λ (t : Story). IsJoined (record { port = port.after_free s.port n; endpoint = device.acted l.endpoint; needs = needs; held = device.next_completion l.endpoint }) t start (calls ++ devices.Act ∷ []) (accepted ++ []) (completed ++ list_of (device.next_completion l.endpoint)))
    (sym (freeing (slice_get s.held 0) s 0 n (somes needs) (ap (λ (xs : List Need). slice_get xs 0) (sym h)) (ap (λ (xs : List Need). remove xs 0) (sym h))))
    (acts-joined l s (freed_of s n (somes needs)) (port.after_free s.port n) needs start calls accepted completed refl refl refl refl c none i)

none-held : (h : Option TlpView) (b : Bool) → (is_none h && b) ≡ true → h ≡ None
none-held None b e = refl
none-held (Some t) b e = cc

last-joined : (w : Bool) (l : LinkedView) (s : Story) (start : EndpointView) (calls : List devices.Call) (accepted : List AcceptedPacket) (completed : List TlpView) → is_last l.endpoint ≡ w → l.held ≡ None
    → IsJoined l s start calls accepted completed
    → IsJoined (if w then given_back (record l { endpoint = device.acted l.endpoint; held = device.next_completion l.endpoint }) else record l { endpoint = device.acted l.endpoint; held = device.next_completion l.endpoint })
    (ports.after_calls s (if w then frees_first l.needs else [])) start (calls ++ devices.Act ∷ []) (accepted ++ []) (completed ++ list_of (device.next_completion l.endpoint))
last-joined true l s start calls accepted completed w none i =
    let fewer_needs : length (drop 1 l.needs) ≡ length (device.acted l.endpoint).waiting = length-drop 1 l.needs ∙ ap (λ (n : ℕ). n - 1) i.counted ∙ fewer l.endpoint w in
    subst (λ (p : PortView). IsJoined (record { port = freed_front p l.needs; endpoint = device.acted l.endpoint; needs = drop 1 l.needs; held = device.next_completion l.endpoint }) (ports.after_calls s (frees_first l.needs)) start (calls ++ devices.Act ∷ []) (accepted ++ []) (completed ++ list_of (device.next_completion l.endpoint)))
    (sym i.port_is) (first-freed l.needs l s start calls accepted completed i.needs_are fewer_needs none i)
last-joined false l s start calls accepted completed w none i =
    acts-joined l s s l.port l.needs start calls accepted completed (sym i.port_is) refl refl i.needs_are (i.counted ∙ sym (as-many l.endpoint w)) none i

act-joined : (b : Bool) (l : LinkedView) (s : Story) (start : EndpointView) (calls : List devices.Call) (accepted : List AcceptedPacket) (completed : List TlpView) → may_act l ≡ b
    → IsJoined l s start calls accepted completed
    → IsJoined (if b then acted l else l) (ports.after_calls s (if b && is_last l.endpoint then frees_first l.needs else [])) start (calls ++ (if b then devices.Act ∷ [] else [])) (accepted ++ []) (completed ++ (if b then list_of (device.next_completion l.endpoint) else []))
act-joined true l s start calls accepted completed e i =
    last-joined (is_last l.endpoint) l s start calls accepted completed refl (none-held l.held (may_go l.port (device.next_need l.endpoint)) e) i
act-joined false l s start calls accepted completed e i = rw (append-nil calls, append-nil accepted, append-nil completed) i

-- ---- a completion enters

abbrev entering : LinkedView → PortView → TlpView → LinkedView
entering l p t = record l { port = port.after_enter p t; held = None }

enter-some : (o : Option EnterRefusal) (t : TlpView) (l : LinkedView) (s : Story) (start : EndpointView) (calls : List devices.Call) (accepted : List AcceptedPacket) (completed : List TlpView)
    → l.held ≡ Some t → IsJoined l s start calls accepted completed
    → IsJoined (if is_none o then entering l s.port t else l) (ports.with_entered s t o) start (calls ++ []) (accepted ++ []) (completed ++ [])
enter-some (Some refusal) t l s start calls accepted completed h i = rw (append-nil calls, append-nil accepted, append-nil completed) i
enter-some None t l s start calls accepted completed h i =
    rw (append-nil calls, append-nil accepted, append-nil completed)
    (record {
      port_is = refl;
      accepted_are = i.accepted_are;
      needs_are = i.needs_are;
      counted = i.counted;
      entered_are = i.entered_are ∙ ap (λ (x : Option TlpView). s.entered ++ cargos_of (list_of x)) h ∙ sym (append-nil (s.entered ++ cargo_of t 0 ∷ []));
      taken_are = i.taken_are;
      device_is = i.device_is;
    })

entered-some : (h : Option TlpView) (t : TlpView) (p : PortView) (l : LinkedView) → h ≡ Some t → l.port ≡ p → entered_with l h ≡ entering l p t
entered-some None t p l e f = cc
entered-some (Some u) t p l e f =
    let same : u ≡ t = cc in
    ap₂ (λ (q : PortView) (x : TlpView). entering l q x) f same

entered-none : (h : Option TlpView) (l : LinkedView) → h ≡ None → entered_with l h ≡ l
entered-none None l e = refl
entered-none (Some u) l e = cc

entered-is : (o : Option EnterRefusal) (t : TlpView) (p : PortView) (l : LinkedView) → l.port ≡ p → l.held ≡ Some t
    → entered_unless o l ≡ (if is_none o then entering l p t else l)
entered-is (Some refusal) t p l e h = refl
entered-is None t p l e h = entered-some l.held t p l h e

enter-joined : (h : Option TlpView) (l : LinkedView) (s : Story) (start : EndpointView) (calls : List devices.Call) (accepted : List AcceptedPacket) (completed : List TlpView) → l.held ≡ h
    → IsJoined l s start calls accepted completed
    → IsJoined (entered_unless (refusal_for s.port h) l) (ports.after_calls s (enters h)) start (calls ++ []) (accepted ++ []) (completed ++ [])
enter-joined None l s start calls accepted completed h i =
    subst (λ (x : LinkedView). IsJoined x s start (calls ++ []) (accepted ++ []) (completed ++ [])) (sym (entered-none l.held l h))
    (rw (append-nil calls, append-nil accepted, append-nil completed) i)
enter-joined (Some t) l s start calls accepted completed h i =
    subst (λ (x : LinkedView). IsJoined x (ports.with_entered s t (port.refusal_of s.port (need_of t))) start (calls ++ []) (accepted ++ []) (completed ++ []))
    (sym (entered-is (port.refusal_of s.port (need_of t)) t s.port l i.port_is h))
    (enter-some (port.refusal_of s.port (need_of t)) t l s start calls accepted completed h i)

-- ---- any call that isn't Up or Down

abbrev Goes : LinkedView → Story → EndpointView → List devices.Call → List AcceptedPacket → List TlpView → Call → Type 0
Goes l s start calls accepted completed call =
    IsJoined (after_call l call) (ports.after_calls s (calls_of_port l call)) start (calls ++ calls_of_device l call) (accepted ++ accepted_by l call) (completed ++ completed_by l call)

received-joined : (l : LinkedView) (s : Story) (p : PortView) (start : EndpointView) (calls : List devices.Call) (accepted : List AcceptedPacket) (completed : List TlpView) (packet : List ℕ) (check : Check) → s.port ≡ p
    → IsJoined l s start calls accepted completed
    → IsJoined (after_arrival (port.received p packet check) l (port.after_receive p packet check) (tlp_in packet))
    (ports.after_calls (ports.with_packet s packet check) (frees_last l (port.received p packet check) (tlp_in packet)))
    start (calls ++ takes_if (is_taken (port.received p packet check)) (tlp_in packet)) (accepted ++ accepted_in (port.received p packet check) packet) (completed ++ [])
received-joined l s p start calls accepted completed packet check e i =
    subst (λ (p : PortView). IsJoined (after_arrival (port.received p packet check) l (port.after_receive p packet check) (tlp_in packet))
    (ports.after_calls (ports.with_packet s packet check) (frees_last l (port.received p packet check) (tlp_in packet)))
    start (calls ++ takes_if (is_taken (port.received p packet check)) (tlp_in packet)) (accepted ++ accepted_in (port.received p packet check) packet) (completed ++ []))
    e (arrived-joined (port.received s.port packet check) l s (port.after_receive s.port packet check) packet start calls accepted completed i)

passed : (f : PortView → PortView) (l : LinkedView) (s t : Story) (start : EndpointView) (calls : List devices.Call) (accepted : List AcceptedPacket) (completed : List TlpView)
    → t.port ≡ f s.port → t.accepted ≡ s.accepted → t.held ≡ s.held → t.entered ≡ s.entered → IsJoined l s start calls accepted completed
    → IsJoined (with_port l (f l.port)) t start (calls ++ []) (accepted ++ []) (completed ++ [])
passed f l s t start calls accepted completed p a h e i = same-joined l s t (f l.port) start calls accepted completed (p ∙ ap f (sym i.port_is)) a h e i

goes-joined : (l : LinkedView) (s : Story) (start : EndpointView) (calls : List devices.Call) (accepted : List AcceptedPacket) (completed : List TlpView) (packet : List ℕ) (check : Check)
    → IsJoined l s start calls accepted completed → Goes l s start calls accepted completed (Receive packet check)
goes-joined l s start calls accepted completed packet check i = received-joined l s l.port start calls accepted completed packet check (sym i.port_is) i

entering-joined : (l : LinkedView) (s : Story) (start : EndpointView) (calls : List devices.Call) (accepted : List AcceptedPacket) (completed : List TlpView)
    → IsJoined l s start calls accepted completed → Goes l s start calls accepted completed Enter
entering-joined l s start calls accepted completed i =
    subst (λ (p : PortView). IsJoined (entered_unless (refusal_for p l.held) l) (ports.after_calls s (enters l.held)) start (calls ++ []) (accepted ++ []) (completed ++ []))
    (sym i.port_is) (enter-joined l.held l s start calls accepted completed refl i)

-- ---- runs

abbrev pub JoinedRun : LaneCredits → Run → Type 0
JoinedRun ours r = IsJoined r.linked (story ours r) r.start r.device_calls r.accepted r.completed

more-calls : (s : Story) (xs ys : List ports.Call) → ports.after_calls s (xs ++ ys) ≡ ports.after_calls (ports.after_calls s xs) ys
more-calls s [] ys = refl
more-calls s (x ∷ xs) ys = more-calls (ports.after_call s x) xs ys

anew-joined : (l : LinkedView) (p : PortView) → IsJoined (record { port = p; endpoint = device.after_reset_of l.endpoint; needs = []; held = None }) (story_of p) (device.after_reset_of l.endpoint) [] [] []
anew-joined l p = record { port_is = refl; accepted_are = refl; needs_are = refl; counted = refl; entered_are = refl; taken_are = refl; device_is = refl }

begun : (ours : LaneCredits) (r : Run) (f : LaneCredits → PortView) (call : ports.Call) → ((s : Story) → ports.after_call s call ≡ story_of (f s.port.ours)) → JoinedRun ours r
    → JoinedRun ours (anew r (record { port = f r.linked.port.ours; endpoint = device.after_reset_of r.linked.endpoint; needs = []; held = None }) (call ∷ []))
begun ours r f call e i =
    let s = story ours r in
    let now : story_in ours (r.port_calls ++ call ∷ []) ≡ story_of (f r.linked.port.ours) =
    more-calls (story_of (port.new_port ours)) r.port_calls (call ∷ []) ∙ e s ∙ ap (λ (p : PortView). story_of (f p.ours)) (sym i.port_is) in
    subst (λ (t : Story). IsJoined (record { port = f r.linked.port.ours; endpoint = device.after_reset_of r.linked.endpoint; needs = []; held = None }) t (device.after_reset_of r.linked.endpoint) [] [] [])
    (sym now) (anew-joined r.linked (f r.linked.port.ours))

went-on : (ours : LaneCredits) (r : Run) (call : Call) → Goes r.linked (story ours r) r.start r.device_calls r.accepted r.completed call → JoinedRun ours (goes_on r call)
went-on ours r call g =
    subst (λ (t : Story). IsJoined (after_call r.linked call) t r.start (r.device_calls ++ calls_of_device r.linked call) (r.accepted ++ accepted_by r.linked call) (r.completed ++ completed_by r.linked call))
    (sym (more-calls (story_of (port.new_port ours)) r.port_calls (calls_of_port r.linked call))) g

call-joined : (ours : LaneCredits) (r : Run) (call : Call) → JoinedRun ours r → JoinedRun ours (run_by r call)
call-joined ours r Up i = begun ours r (λ (o : LaneCredits). port.risen o) ports.Up (λ s. refl) i
call-joined ours r Down i = begun ours r (λ (o : LaneCredits). port.new_port o) ports.Down (λ s. refl) i
call-joined ours r (Receive packet check) i = went-on ours r (Receive packet check) (goes-joined r.linked (story ours r) r.start r.device_calls r.accepted r.completed packet check i)
call-joined ours r (ReceiveDllp bytes check) i =
    went-on ours r (ReceiveDllp bytes check) (passed (λ (p : PortView). port.after_dllp_received p bytes check) r.linked (story ours r) _ r.start r.device_calls r.accepted r.completed refl refl refl refl i)
call-joined ours r Act i = went-on ours r Act (act-joined (may_act r.linked) r.linked (story ours r) r.start r.device_calls r.accepted r.completed refl i)
call-joined ours r Enter i = went-on ours r Enter (entering-joined r.linked (story ours r) r.start r.device_calls r.accepted r.completed i)
call-joined ours r Next i = went-on ours r Next (passed (λ (p : PortView). port.after_next p) r.linked (story ours r) _ r.start r.device_calls r.accepted r.completed refl refl refl refl i)
call-joined ours r Refresh i = went-on ours r Refresh (passed (λ (p : PortView). port.refreshed p) r.linked (story ours r) _ r.start r.device_calls r.accepted r.completed refl refl refl refl i)
call-joined ours r Replay i = went-on ours r Replay (passed (λ (p : PortView). port.after_replay p) r.linked (story ours r) _ r.start r.device_calls r.accepted r.completed refl refl refl refl i)
call-joined ours r Retrained i = went-on ours r Retrained (passed (λ (p : PortView). port.after_retrained p) r.linked (story ours r) _ r.start r.device_calls r.accepted r.completed refl refl refl refl i)

calls-joined : (ours : LaneCredits) (r : Run) (calls : List Call) → JoinedRun ours r → JoinedRun ours (runs_by r calls)
calls-joined ours r [] i = i
calls-joined ours r (call ∷ calls) i = calls-joined ours (run_by r call) calls (call-joined ours r call i)

pub joined : (setup : SetupView) (ours : LaneCredits) (calls : List Call) → JoinedRun ours (run_in setup ours calls)
joined setup ours calls =
    calls-joined ours (new_run setup ours) calls
    (record { port_is = refl; accepted_are = refl; needs_are = refl; counted = refl; entered_are = refl; taken_are = refl; device_is = refl })

-- ---- the calls of the port are calls

are-more : (xs ys : List ports.Call) → ports.AreCalls xs → ports.AreCalls ys → ports.AreCalls (xs ++ ys)
are-more [] ys h k = k
are-more (x ∷ xs) ys h k = (h.0, are-more xs ys h.1 k)

frees-are : (place : ℕ) (need : Option Need) → ports.AreCalls (frees place need)
frees-are place None = tt
frees-are place (Some n) = (tt, tt)

unless-waits : (w : Bool) (place : ℕ) (need : Option Need) → ports.AreCalls (if w then [] else frees place need)
unless-waits true place need = tt
unless-waits false place need = frees-are place need

last-are : (l : LinkedView) (r : Received) (tlp : List ℕ) → ports.AreCalls (frees_last l r tlp)
last-are l (arrivals.Accepted need true) tlp = tt
last-are l (arrivals.Accepted need false) tlp = unless-waits (is_waiting (device.handled l.endpoint tlp)) (length (somes l.needs)) need
last-are l arrivals.Dropped tlp = tt
last-are l arrivals.Duplicate tlp = tt
last-are l arrivals.NakNow tlp = tt
last-are l arrivals.Quiet tlp = tt

first-are : (needs : List (Option Need)) → ports.AreCalls (frees_first needs)
first-are [] = tt
first-are (need ∷ needs) = frees-are 0 need

acts-are : (b : Bool) (needs : List (Option Need)) → ports.AreCalls (if b then frees_first needs else [])
acts-are true needs = first-are needs
acts-are false needs = tt

enters-are : (h : Option TlpView) → ports.AreCalls (enters h)
enters-are None = tt
enters-are (Some t) = (tt, tt)

call-are : (l : LinkedView) (call : Call) → IsCall call → ports.AreCalls (calls_of_port l call)
call-are l Up h = (tt, tt)
call-are l Down h = (tt, tt)
call-are l (Receive packet check) h = (h, last-are l (port.received l.port packet check) (tlp_in packet))
call-are l (ReceiveDllp bytes check) h = (h, tt)
call-are l Act h = acts-are (may_act l && is_last l.endpoint) l.needs
call-are l Enter h = enters-are l.held
call-are l Next h = (tt, tt)
call-are l Refresh h = (tt, tt)
call-are l Replay h = (tt, tt)
call-are l Retrained h = (tt, tt)

run-are : (r : Run) (call : Call) → IsCall call → ports.AreCalls r.port_calls → ports.AreCalls (run_by r call).port_calls
run-are r Up h k = are-more r.port_calls _ k (call-are r.linked Up h)
run-are r Down h k = are-more r.port_calls _ k (call-are r.linked Down h)
run-are r (Receive packet check) h k = are-more r.port_calls _ k (call-are r.linked (Receive packet check) h)
run-are r (ReceiveDllp bytes check) h k = are-more r.port_calls _ k (call-are r.linked (ReceiveDllp bytes check) h)
run-are r Act h k = are-more r.port_calls _ k (call-are r.linked Act h)
run-are r Enter h k = are-more r.port_calls _ k (call-are r.linked Enter h)
run-are r Next h k = are-more r.port_calls _ k (call-are r.linked Next h)
run-are r Refresh h k = are-more r.port_calls _ k (call-are r.linked Refresh h)
run-are r Replay h k = are-more r.port_calls _ k (call-are r.linked Replay h)
run-are r Retrained h k = are-more r.port_calls _ k (call-are r.linked Retrained h)

runs-are : (r : Run) (calls : List Call) → AreCalls calls → ports.AreCalls r.port_calls → ports.AreCalls (runs_by r calls).port_calls
runs-are r [] h k = k
runs-are r (call ∷ calls) h k = runs-are (run_by r call) calls h.1 (run-are r call h.0 k)

pub are-calls : (setup : SetupView) (ours : LaneCredits) (calls : List Call) → AreCalls calls → ports.AreCalls (run_in setup ours calls).port_calls
are-calls setup ours calls h = runs-are (new_run setup ours) calls h tt

-- ---- numbers

pub numbers-of : (accepted : List AcceptedPacket) → map (λ (packet : ℕ × List ℕ). packet.0) (map packet_of accepted) ≡ map (λ (a : AcceptedPacket). a.number) accepted
numbers-of [] = refl
numbers-of (a ∷ rest) = ap (λ (xs : List ℕ). a.number ∷ xs) (numbers-of rest)

-- ---- the device began with nothing that waits

run-empty : (r : Run) (call : Call) → r.start.waiting ≡ [] → (run_by r call).start.waiting ≡ []
run-empty r Up e = refl
run-empty r Down e = refl
run-empty r (Receive packet check) e = e
run-empty r (ReceiveDllp bytes check) e = e
run-empty r Act e = e
run-empty r Enter e = e
run-empty r Next e = e
run-empty r Refresh e = e
run-empty r Replay e = e
run-empty r Retrained e = e

runs-empty : (r : Run) (calls : List Call) → r.start.waiting ≡ [] → (runs_by r calls).start.waiting ≡ []
runs-empty r [] e = e
runs-empty r (call ∷ calls) e = runs-empty (run_by r call) calls (run-empty r call e)

pub empty-start : (setup : SetupView) (ours : LaneCredits) (calls : List Call) → (run_in setup ours calls).start.waiting ≡ []
empty-start setup ours calls = runs-empty (new_run setup ours) calls refl
