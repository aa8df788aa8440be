-- What is on the wire of a lane.
use Rattle.std.proofs.Common.{◌≡◌, ◌∙◌, ◌≢◌, ◌⊎◌, ℕ, zero, suc, ◌+◌, ◌-◌, ◌≤◌, ◌<◌, Bool, true, false, List, [], ◌∷◌, ◌++◌, length, take, drop, map, get_or, refl, sym, ap, subst, inl, inr, Option, Some, None, append_assoc, arith}
use Rattle.std.specs.Prelude.{slice_get, slice_set, replicate, ◌==◌, if◌then◌else◌}
use Rattle.std.proofs.lemmas.List.{append-nil, length-append}
use Rattle.std.proofs.lemmas.Bool.Decides.{eqb_tells}
use Rattle.std.proofs.lemmas.Option.{slice_get-get_or}
use Rattle.std.proofs.Math.Seq.{take-append-add}
use Rattle.tlp_core.specs.Ops.{Op}
use Rattle.lane_core.specs.declared.packet.Fate.{Fate}
use Rattle.lane_core.specs.declared.packet.DllpSeen.{DllpSeen}
use Rattle.lane_core.specs.declared.packet.DllpSeen.TheVariants as dllps_seen
use Rattle.dllp_core.specs.declared.packet.Dllp.TheVariants as dllps
use Rattle.fabric_steps.specs.Event.{Event, Seen}
use Rattle.fabric_steps.specs.declared.event.EventOf.TheVariants as events
use Rattle.fabric_steps.specs.declared.event.LaneName.{LaneName}
use Rattle.fabric_steps.specs.declared.event.LaneName.TheVariants as lanes
use Rattle.fabric_steps.specs.declared.event.SeenOf.TheVariants as seen
use Rattle.chart_rows.specs.declared.row.Carried.{Carried}
use Rattle.chart_rows.specs.declared.row.Deed.{Deed}
use Rattle.chart_rows.specs.declared.row.Deed.TheVariants as deeds
use Rattle.chart_rows.specs.declared.row.PacketSent.{PacketSent}
use Rattle.chart_links.specs.CourseView.{CourseView, quiet, entered, next_carried, sent, oldest, arrived, without, sent_back, without_back, replayed, told as told_dllp}
use Rattle.chart_links.specs.Lanes.{Moved, moved, place_of, changed_found, changed, asked_found, submitted, transmitted, delivered, dllp_sent, dllp_delivered, expired, forwarded, served, collected, with_completion, is_accepted, lane_to, followed}
use Rattle.chart_links.specs.ChartView.{ChartView, headed}
use Rattle.chart_laws.specs.Arrows.{Tale, told, row_in, deed_in, sent_on, begun_on, sendings, beginnings, NeverMore}

abbrev packets : List PacketSent → List (Option PacketSent)
packets ps = map (λ (p : PacketSent). Some p) ps

abbrev packets_on : Option CourseView → List (Option PacketSent)
packets_on o = asked_found (λ (c : CourseView). packets c.wire) [] o

-- the packets on the wire at a place
abbrev wire : ℕ → List CourseView → List (Option PacketSent)
wire k cs = packets_on (slice_get cs k)

-- ---- lists

get_set_other : {X : Type 0} (xs : List X) (p k : ℕ) (y : X) → p ≢ k → slice_get (slice_set xs p y) k ≡ slice_get xs k
get_set_other [] p k y ne = refl
get_set_other (x ∷ xs) zero zero y ne = absurd (ne refl)
get_set_other (x ∷ xs) zero (suc k) y ne = refl
get_set_other (x ∷ xs) (suc p) zero y ne = refl
get_set_other (x ∷ xs) (suc p) (suc k) y ne = get_set_other xs p k y (λ e. ne (ap suc e))

get_set_same : {X : Type 0} (xs : List X) (p : ℕ) (x y : X) → slice_get xs p ≡ Some x → slice_get (slice_set xs p y) p ≡ Some y
get_set_same [] p x y e = absurd cc
get_set_same (z ∷ xs) zero x y e = refl
get_set_same (z ∷ xs) (suc p) x y e = get_set_same xs p x y e

len_set : {X : Type 0} (xs : List X) (p : ℕ) (y : X) → length (slice_set xs p y) ≡ length xs
len_set [] p y = refl
len_set (x ∷ xs) zero y = refl
len_set (x ∷ xs) (suc p) y = ap suc (len_set xs p y)

packets_more : (ps : List PacketSent) (p : PacketSent) → packets (ps ++ p ∷ []) ≡ packets ps ++ Some p ∷ []
packets_more [] p = refl
packets_more (q ∷ ps) p = ap (λ (t : List (Option PacketSent)). Some q ∷ t) (packets_more ps p)

-- ---- changes

at_other : (f : CourseView → CourseView) (cs : List CourseView) (p k : ℕ) (o : Option CourseView) → p ≢ k → slice_get (changed_found f cs p o) k ≡ slice_get cs k
at_other f cs p k None ne = refl
at_other f cs p k (Some c) ne = get_set_other cs p k (f c) ne

abbrev after : (CourseView → CourseView) → Option CourseView → Option CourseView
after f None = None
after f (Some c) = Some (f c)

at_same : (f : CourseView → CourseView) (cs : List CourseView) (p : ℕ) (o : Option CourseView) → slice_get cs p ≡ o → slice_get (changed_found f cs p o) p ≡ after f o
at_same f cs p None e = e
at_same f cs p (Some c) e = get_set_same cs p c (f c) e

abbrev change : (CourseView → CourseView) → List CourseView → ℕ → List CourseView
change f cs p = changed_found f cs p (slice_get cs p)

len : (f : CourseView → CourseView) (cs : List CourseView) (p : ℕ) (o : Option CourseView) → length (changed_found f cs p o) ≡ length cs
len f cs p None = refl
len f cs p (Some c) = len_set cs p (f c)

same_packets : (f : CourseView → CourseView) → ((c : CourseView) → (f c).wire ≡ c.wire) → (o : Option CourseView) → packets_on (after f o) ≡ packets_on o
same_packets f keep None = refl
same_packets f keep (Some c) = ap (λ (ps : List PacketSent). packets ps) (keep c)

abbrev Told : ℕ → ℕ → Type 0
Told p k = (((p == k) ≡ true) × (p ≡ k)) ⊎ (((p == k) ≡ false) × (p ≢ k))

keeps_by : (f : CourseView → CourseView) → ((c : CourseView) → (f c).wire ≡ c.wire) → (cs : List CourseView) (p k : ℕ) → Told p k → wire k (change f cs p) ≡ wire k cs
keeps_by f keep cs p k (inl w) =
    subst (λ (j : ℕ). wire j (change f cs p) ≡ wire j cs) w.1
    (ap (λ (o : Option CourseView). packets_on o) (at_same f cs p (slice_get cs p) refl) ∙ same_packets f keep (slice_get cs p))
keeps_by f keep cs p k (inr w) = ap (λ (o : Option CourseView). packets_on o) (at_other f cs p k (slice_get cs p) w.1)

-- a change that leaves the packets on a wire leaves each wire
keeps : (f : CourseView → CourseView) → ((c : CourseView) → (f c).wire ≡ c.wire) → (cs : List CourseView) (p k : ℕ) → wire k (change f cs p) ≡ wire k cs
keeps f keep cs p k = keeps_by f keep cs p k (eqb_tells p k)

-- ---- packets that are sent

abbrev has : Bool → Option PacketSent → List (Option PacketSent)
has b packet = if b then packet ∷ [] else []

-- the packet that is sent next
abbrev next : ℕ → Option ℕ → Option CourseView → Option PacketSent
next number row o = Some (record { number = number; carried = asked_found next_carried None o; row = row })

sends_at : (number : ℕ) (row : Option ℕ) (c : CourseView) (o : Option CourseView) → o ≡ Some c → packets_on o ++ next number row o ∷ [] ≡ packets_on (after (sent number row) o)
sends_at number row c None e = absurd cc
sends_at number row c (Some d) e = sym (packets_more d.wire _)

sends_by : (number : ℕ) (row : Option ℕ) (cs : List CourseView) (p k : ℕ) → k < length cs → Told p k
    → wire k cs ++ has (p == k) (next number row (slice_get cs p)) ≡ wire k (change (sent number row) cs p)
sends_by number row cs p k lt (inl w) =
    let packet = next number row (slice_get cs p) in
    ap (λ (b : Bool). wire k cs ++ has b packet) w.0
    ∙ subst (λ (j : ℕ). j < length cs → wire j cs ++ packet ∷ [] ≡ wire j (change (sent number row) cs p)) w.1
    (λ below. sends_at number row (get_or cs p quiet) (slice_get cs p) (slice_get-get_or cs p quiet below)
    ∙ sym (ap (λ (o : Option CourseView). packets_on o) (at_same (sent number row) cs p (slice_get cs p) refl))) lt
sends_by number row cs p k lt (inr w) =
    ap (λ (b : Bool). wire k cs ++ has b (next number row (slice_get cs p))) w.0 ∙ append-nil (wire k cs)
    ∙ sym (ap (λ (o : Option CourseView). packets_on o) (at_other (sent number row) cs p k (slice_get cs p) w.1))

-- ---- packets that arrive

leaves : (ps : List PacketSent) → 1 ≤ length (packets ps) → packets ps ++ [] ≡ slice_get ps 0 ∷ packets (drop 1 ps)
leaves [] le = absurd (omega arith)
leaves (p ∷ ps) le = append-nil (packets (p ∷ ps))

arrives_at : (acc : Bool) (o : Option CourseView) → 1 ≤ length (packets_on o) → packets_on o ++ [] ≡ asked_found oldest None o ∷ packets_on (after (arrived acc) o)
arrives_at acc None le = absurd (omega arith)
arrives_at acc (Some c) le = leaves c.wire le

arrives_by : (acc : Bool) (cs : List CourseView) (p k : ℕ) → Told p k → length (has (p == k) (asked_found oldest None (slice_get cs p))) ≤ length (wire k cs)
    → wire k cs ++ [] ≡ has (p == k) (asked_found oldest None (slice_get cs p)) ++ wire k (change (arrived acc) cs p)
arrives_by acc cs p k (inl w) le =
    let packet = asked_found oldest None (slice_get cs p) in
    let one : 1 ≤ length (wire k cs) = subst (λ (b : Bool). length (has b packet) ≤ length (wire k cs)) w.0 le in
    subst (λ (j : ℕ). 1 ≤ length (wire j cs) → wire j cs ++ [] ≡ packet ∷ wire j (change (arrived acc) cs p)) w.1
    (λ some. arrives_at acc (slice_get cs p) some
    ∙ sym (ap (λ (o : Option CourseView). packet ∷ packets_on o) (at_same (arrived acc) cs p (slice_get cs p) refl))) one
    ∙ sym (ap (λ (b : Bool). has b packet ++ wire k (change (arrived acc) cs p)) w.0)
arrives_by acc cs p k (inr w) le =
    let packet = asked_found oldest None (slice_get cs p) in
    append-nil (wire k cs) ∙ sym (ap (λ (o : Option CourseView). packets_on o) (at_other (arrived acc) cs p k (slice_get cs p) w.1))
    ∙ sym (ap (λ (b : Bool). has b packet ++ wire k (change (arrived acc) cs p)) w.0)

-- ---- one event

-- what an event leaves on the wire at a place
record Step (k : ℕ) (row : Option ℕ) (cs : List CourseView) (m : Moved) : Type 0 where
  there : length m.courses ≡ length cs
  on_wire : k < length cs → length (begun_on k m.deed) ≤ length (wire k cs) → wire k cs ++ sent_on k row m.deed ≡ begun_on k m.deed ++ wire k m.courses

still : (k : ℕ) (row : Option ℕ) (cs cs' : List CourseView) (deed : Deed) → sent_on k row deed ≡ [] → begun_on k deed ≡ [] → length cs' ≡ length cs → wire k cs' ≡ wire k cs
    → Step k row cs (moved cs' deed)
still k row cs cs' deed s b same kept = record {
  there = same;
  on_wire = λ lt le. ap (λ (t : List (Option PacketSent)). wire k cs ++ t) s ∙ append-nil (wire k cs) ∙ sym kept ∙ sym (ap (λ (t : List (Option PacketSent)). t ++ wire k cs') b);
}

none : (k : ℕ) (row : Option ℕ) (cs : List CourseView) → Step k row cs (moved cs deeds.Nothing)
none k row cs = still k row cs cs deeds.Nothing refl refl refl refl

one : (k : ℕ) (row : Option ℕ) (cs : List CourseView) (f : CourseView → CourseView) (p : ℕ) (deed : Deed) → ((c : CourseView) → (f c).wire ≡ c.wire) → sent_on k row deed ≡ [] → begun_on k deed ≡ []
    → Step k row cs (moved (change f cs p) deed)
one k row cs f p deed keep s b = still k row cs (change f cs p) deed s b (len f cs p (slice_get cs p)) (keeps f keep cs p k)

of_submit : (k : ℕ) (row : Option ℕ) (cs : List CourseView) (port : ℕ) (op : Op) (what : Seen) → Step k row cs (submitted cs port op what)
of_submit k row cs port op (seen.Submitted n) = one k row cs _ (place_of (lanes.Up port)) _ (λ c. refl) refl refl
of_submit k row cs port op (seen.Sent n) = none k row cs
of_submit k row cs port op (seen.Delivered a) = none k row cs
of_submit k row cs port op (seen.SentDllp d) = none k row cs
of_submit k row cs port op (seen.SeenDllp d) = none k row cs
of_submit k row cs port op (seen.Back n) = none k row cs
of_submit k row cs port op seen.Retrained = none k row cs
of_submit k row cs port op (seen.To next) = none k row cs
of_submit k row cs port op (seen.At index) = none k row cs
of_submit k row cs port op (seen.Collected a) = none k row cs

of_transmit : (k : ℕ) (row : Option ℕ) (cs : List CourseView) (lane : LaneName) (what : Seen) → Step k row cs (transmitted cs row lane what)
of_transmit k row cs lane (seen.Submitted n) = none k row cs
of_transmit k row cs lane (seen.Sent n) = record { there = len (sent n row) cs (place_of lane) _; on_wire = λ lt le. sends_by n row cs (place_of lane) k lt (eqb_tells (place_of lane) k) }
of_transmit k row cs lane (seen.Delivered a) = none k row cs
of_transmit k row cs lane (seen.SentDllp d) = none k row cs
of_transmit k row cs lane (seen.SeenDllp d) = none k row cs
of_transmit k row cs lane (seen.Back n) = none k row cs
of_transmit k row cs lane seen.Retrained = none k row cs
of_transmit k row cs lane (seen.To next) = none k row cs
of_transmit k row cs lane (seen.At index) = none k row cs
of_transmit k row cs lane (seen.Collected a) = none k row cs

of_deliver : (k : ℕ) (row : Option ℕ) (cs : List CourseView) (lane : LaneName) (fate : Fate) (what : Seen) → Step k row cs (delivered cs lane fate what)
of_deliver k row cs lane fate (seen.Submitted n) = none k row cs
of_deliver k row cs lane fate (seen.Sent n) = none k row cs
of_deliver k row cs lane fate (seen.Delivered a) = record { there = len (arrived (is_accepted a)) cs (place_of lane) _; on_wire = λ lt le. arrives_by (is_accepted a) cs (place_of lane) k (eqb_tells (place_of lane) k) le }
of_deliver k row cs lane fate (seen.SentDllp d) = none k row cs
of_deliver k row cs lane fate (seen.SeenDllp d) = none k row cs
of_deliver k row cs lane fate (seen.Back n) = none k row cs
of_deliver k row cs lane fate seen.Retrained = none k row cs
of_deliver k row cs lane fate (seen.To next) = none k row cs
of_deliver k row cs lane fate (seen.At index) = none k row cs
of_deliver k row cs lane fate (seen.Collected a) = none k row cs

of_dllp : (k : ℕ) (row : Option ℕ) (cs : List CourseView) (lane : LaneName) (what : Seen) → Step k row cs (dllp_sent cs row lane what)
of_dllp k row cs lane (seen.Submitted n) = none k row cs
of_dllp k row cs lane (seen.Sent n) = none k row cs
of_dllp k row cs lane (seen.Delivered a) = none k row cs
of_dllp k row cs lane (seen.SentDllp d) = one k row cs (sent_back d row) (place_of lane) _ (λ c. refl) refl refl
of_dllp k row cs lane (seen.SeenDllp d) = none k row cs
of_dllp k row cs lane (seen.Back n) = none k row cs
of_dllp k row cs lane seen.Retrained = none k row cs
of_dllp k row cs lane (seen.To next) = none k row cs
of_dllp k row cs lane (seen.At index) = none k row cs
of_dllp k row cs lane (seen.Collected a) = none k row cs

told_keeps : (what : DllpSeen) (c : CourseView) → (told_dllp what (without_back c)).wire ≡ c.wire
told_keeps (dllps_seen.Took (dllps.Ack n)) c = refl
told_keeps (dllps_seen.Took (dllps.Nak n)) c = refl
told_keeps (dllps_seen.Took (dllps.Update class headers units)) c = refl
told_keeps dllps_seen.Gone c = refl

of_dllp_end : (k : ℕ) (row : Option ℕ) (cs : List CourseView) (lane : LaneName) (fate : Fate) (what : Seen) → Step k row cs (dllp_delivered cs lane fate what)
of_dllp_end k row cs lane fate (seen.Submitted n) = none k row cs
of_dllp_end k row cs lane fate (seen.Sent n) = none k row cs
of_dllp_end k row cs lane fate (seen.Delivered a) = none k row cs
of_dllp_end k row cs lane fate (seen.SentDllp d) = none k row cs
of_dllp_end k row cs lane fate (seen.SeenDllp d) = one k row cs (λ (c : CourseView). told_dllp d (without_back c)) (place_of lane) _ (told_keeps d) refl refl
of_dllp_end k row cs lane fate (seen.Back n) = none k row cs
of_dllp_end k row cs lane fate seen.Retrained = none k row cs
of_dllp_end k row cs lane fate (seen.To next) = none k row cs
of_dllp_end k row cs lane fate (seen.At index) = none k row cs
of_dllp_end k row cs lane fate (seen.Collected a) = none k row cs

-- two changes that leave the wires
two : (k : ℕ) (row : Option ℕ) (cs : List CourseView) (f g : CourseView → CourseView) (p q : ℕ) (deed : Deed) → ((c : CourseView) → (f c).wire ≡ c.wire) → ((c : CourseView) → (g c).wire ≡ c.wire)
    → sent_on k row deed ≡ [] → begun_on k deed ≡ [] → Step k row cs (moved (change g (change f cs p) q) deed)
two k row cs f g p q deed keep kept s b =
    still k row cs (change g (change f cs p) q) deed s b (len g (change f cs p) q _ ∙ len f cs p _) (keeps g kept (change f cs p) q k ∙ keeps f keep cs p k)

of_forward : (k : ℕ) (row : Option ℕ) (cs : List CourseView) (lane : LaneName) (place : ℕ) (what : Seen) → Step k row cs (forwarded cs lane place what)
of_forward k row cs lane place (seen.Submitted n) = none k row cs
of_forward k row cs lane place (seen.Sent n) = none k row cs
of_forward k row cs lane place (seen.Delivered a) = none k row cs
of_forward k row cs lane place (seen.SentDllp d) = none k row cs
of_forward k row cs lane place (seen.SeenDllp d) = none k row cs
of_forward k row cs lane place (seen.Back n) = none k row cs
of_forward k row cs lane place seen.Retrained = none k row cs
of_forward k row cs lane place (seen.To next) = two k row cs (without place) (entered _) (place_of lane) (place_of (lane_to next)) _ (λ c. refl) (λ c. refl) refl refl
of_forward k row cs lane place (seen.At index) = none k row cs
of_forward k row cs lane place (seen.Collected a) = none k row cs

of_completion : (k : ℕ) (row : Option ℕ) (cs : List CourseView) (place : ℕ) (o : Option Carried) (deed : Deed) → sent_on k row deed ≡ [] → begun_on k deed ≡ []
    → Step k row cs (moved (with_completion (changed (without place) cs lanes.Inward) o) deed)
of_completion k row cs place None deed s b = one k row cs (without place) 0 deed (λ c. refl) s b
of_completion k row cs place (Some x) deed s b = two k row cs (without place) (entered (Some x)) 0 8 deed (λ c. refl) (λ c. refl) s b

of_serve : (k : ℕ) (row : Option ℕ) (cs : List CourseView) (place : ℕ) (what : Seen) → Step k row cs (served cs place what)
of_serve k row cs place (seen.Submitted n) = none k row cs
of_serve k row cs place (seen.Sent n) = none k row cs
of_serve k row cs place (seen.Delivered a) = none k row cs
of_serve k row cs place (seen.SentDllp d) = none k row cs
of_serve k row cs place (seen.SeenDllp d) = none k row cs
of_serve k row cs place (seen.Back n) = none k row cs
of_serve k row cs place seen.Retrained = none k row cs
of_serve k row cs place (seen.To next) = none k row cs
of_serve k row cs place (seen.At index) = of_completion k row cs place _ _ refl refl
of_serve k row cs place (seen.Collected a) = none k row cs

step : (k : ℕ) (row : Option ℕ) (cs : List CourseView) (e : Event) (what : Seen) → Step k row cs (followed cs row e what)
step k row cs (events.Submit port op) what = of_submit k row cs port op what
step k row cs (events.Transmit lane) what = of_transmit k row cs lane what
step k row cs (events.Deliver lane fate) what = of_deliver k row cs lane fate what
step k row cs (events.SendDllp lane kind) what = of_dllp k row cs lane what
step k row cs (events.DeliverDllp lane fate) what = of_dllp_end k row cs lane fate what
step k row cs (events.Timer lane) what = one k row cs replayed (place_of lane) _ (λ c. refl) refl refl
step k row cs (events.Retrained lane) what = still k row cs cs _ refl refl refl refl
step k row cs (events.Forward lane place) what = of_forward k row cs lane place what
step k row cs (events.Serve place) what = of_serve k row cs place what
step k row cs (events.Collect port) what = one k row cs (without 0) (place_of (lanes.Down port)) _ (λ c. refl) refl refl

-- ---- all events

join : {X : Type 0} (w s b w' b' s' : List X) → w ++ s ≡ b ++ w' → b' ≡ take (length b') (w' ++ s') → b ++ b' ≡ take (length (b ++ b')) (w ++ (s ++ s'))
join w s b w' b' s' e ih =
    let whole : b ++ (w' ++ s') ≡ w ++ (s ++ s') = sym (append_assoc b w' s') ∙ ap (λ t. t ++ s') (sym e) ∙ append_assoc w s s' in
    ap (λ t. b ++ t) ih ∙ sym (take-append-add b (w' ++ s') (length b')) ∙ ap (λ n. take n (b ++ (w' ++ s'))) (sym (length-append b b')) ∙ ap (λ t. take (length (b ++ b')) t) whole

left_over : {X : Type 0} (w s b w' : List X) (n : ℕ) → n ≡ length w → w ++ s ≡ b ++ w' → n + length s - length b ≡ length w'
left_over w s b w' n is e =
    let total : length w + length s ≡ length b + length w' = sym (length-append w s) ∙ ap (λ t. length t) e ∙ length-append b w' in
    omega (arith, is, total)

pub arrows : (ts : List Tale) (k n : ℕ) (v : ChartView) → k < length v.courses → n ≡ length (wire k v.courses) → NeverMore k n v ts
    → beginnings k v ts ≡ take (length (beginnings k v ts)) (wire k v.courses ++ sendings k v ts)
arrows [] k n v lt is never = refl
arrows (Tale.Settles line ∷ ts) k n v lt is never = arrows ts k n (headed v line) lt is never
arrows (Tale.Happens t ∷ ts) k n v lt is never =
    let row = row_in v t in
    let m : Moved = followed v.courses row t.event t.what in
    let s = sent_on k row m.deed in
    let b = begun_on k m.deed in
    let now : Step k row v.courses m = step k row v.courses t.event t.what in
    let few : length b ≤ length (wire k v.courses) = omega (arith, never.0, is) in
    let e = now.on_wire lt few in
    let below : k < length m.courses = omega (arith, lt, now.there) in
    join (wire k v.courses) s b (wire k m.courses) (beginnings k (told v t) ts) (sendings k (told v t) ts) e
    (arrows ts k (n + length s - length b) (told v t) below (left_over (wire k v.courses) s b (wire k m.courses) n is e) never.1)

pub nothing_sent : (n k : ℕ) → wire k (replicate n quiet) ≡ []
nothing_sent zero k = refl
nothing_sent (suc n) zero = refl
nothing_sent (suc n) (suc k) = nothing_sent n k
