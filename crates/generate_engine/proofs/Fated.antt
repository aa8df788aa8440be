-- What one event more does to fates and counts.
use Rattle.std.proofs.Common.{◌≡◌, ◌∙◌, ◌+◌, ◌*◌, ◌/◌, ◌-◌, ◌%◌, ◌^◌, ◌==◌, ◌<◌, ◌&&◌, if◌then◌else◌, ℕ, Bool, true, false, List, [], ◌∷◌, ◌++◌, length, refl, sym, ap, subst, arith, slice_index, slice_set, inl, inr, add-zero}
use Rattle.std.specs.Prelude.{◌⊎◌, nat_lt, nat_le, count_by, replicate}
use Rattle.std.proofs.lemmas.Bool.{cases_eq}
use Rattle.std.proofs.lemmas.Bool.Decides.{nat_tests}
use Rattle.std.proofs.lemmas.List.{get_or-replicate, get_or-set_same, get_or-set_other, length-replicate, length-set}
use Rattle.std.proofs.lemmas.List.Sums.{sum_by_push}
use Rattle.lane_core.specs.declared.packet.Fate.{Fate}
use Rattle.lane_core.specs.declared.packet.Fate.TheVariants.{Good, Failed, Lost}
use Rattle.fabric_steps.specs.declared.event.LaneName.{LaneName}
use Rattle.fabric_steps.specs.declared.event.LaneName.TheVariants as lanes
use Rattle.fabric_steps.specs.Event.{Event}
use Rattle.fabric_steps.specs.declared.event.EventOf.TheVariants as events
use Rattle.parameters.specs.Fates.{fate_of}
use Rattle.script_text.specs.Spelled.{IsSpelledLane, IsSpelledEvent}
use Rattle.generate_engine.specs.Arrivals.{lane_place, is_packet_at, is_dllp_at, packets_on, dllps_on, IsFated, AreFated, ArrivalsView, nothing_arrived, next_on, HasFate, with_event, IsCounted, AreCounts, IsAfter}

-- ---- places

lane-fits : (lane : LaneName) → IsSpelledLane lane → lane_place lane < 16
lane-fits lanes.Inward h = omega arith
lane-fits (lanes.Up port) h = let most = h.1 in omega arith
lane-fits lanes.Outward h = omega arith
lane-fits (lanes.Down port) h = let most = h.1 in omega arith

-- ---- lists that end with one event more

first_same : {X : Type 0} (x y : X) (xs ys : List X) → x ∷ xs ≡ y ∷ ys → x ≡ y
first_same x y xs ys e = cc

rest_same : {X : Type 0} (x y : X) (xs ys : List X) → x ∷ xs ≡ y ∷ ys → xs ≡ ys
rest_same x y xs ys e = cc

not_empty : (xs : List Event) (y : Event) (ys : List Event) → [] ≡ xs ++ y ∷ ys → ⊥
not_empty [] y ys e = cc
not_empty (x ∷ xs) y ys e = cc

-- what stands in it is its last, or stands in the list without it
last-or-before : (xs : List Event) (x : Event) (before : List Event) (y : Event) (after : List Event) → xs ++ x ∷ [] ≡ before ++ y ∷ after
    → ((before ≡ xs) × (y ≡ x)) ⊎ ((rest : List Event) × (xs ≡ before ++ y ∷ rest))
last-or-before [] x [] y after e = inl (refl, sym (first_same x y [] after e))
last-or-before [] x (z ∷ before) y after e = absurd (not_empty before y after (rest_same x z [] (before ++ y ∷ after) e))
last-or-before (w ∷ xs) x [] y after e = inr (xs, ap (λ (v : Event). v ∷ xs) (first_same w y (xs ++ x ∷ []) after e))
last-or-before (w ∷ xs) x (z ∷ before) y after e =
    let one = first_same w z (xs ++ x ∷ []) (before ++ y ∷ after) e in
    go one (last-or-before xs x before y after (rest_same w z (xs ++ x ∷ []) (before ++ y ∷ after) e))
  where
    go : w ≡ z → ((before ≡ xs) × (y ≡ x)) ⊎ ((rest : List Event) × (xs ≡ before ++ y ∷ rest))
        → ((z ∷ before ≡ w ∷ xs) × (y ≡ x)) ⊎ ((rest : List Event) × (w ∷ xs ≡ z ∷ before ++ y ∷ rest))
    go one (inl h) = inl (ap (λ (v : Event). v ∷ before) (sym one) ∙ ap (λ (t : List Event). w ∷ t) h.0, h.1)
    go one (inr h) = inr (h.0, ap (λ (v : Event). v ∷ xs) one ∙ ap (λ (t : List Event). z ∷ t) h.1)

fated-next : (lose corrupt : ℕ) (all : List Event) (event : Event) → AreFated lose corrupt all → IsFated lose corrupt all event → AreFated lose corrupt (all ++ event ∷ [])
fated-next lose corrupt all event h f = λ before y after e. go before y (last-or-before all event before y after e)
  where
    go : (before : List Event) (y : Event) → ((before ≡ all) × (y ≡ event)) ⊎ ((rest : List Event) × (all ≡ before ++ y ∷ rest)) → IsFated lose corrupt before y
    go before y (inl same) = subst (λ (b : List Event). IsFated lose corrupt b y) (sym same.0) (subst (IsFated lose corrupt all) (sym same.1) f)
    go before y (inr early) = h before y early.0 early.1

-- ---- counts with one event more

counted_yes : (test : Event → Bool) (all : List Event) (event : Event) → test event ≡ true → count_by test (all ++ event ∷ []) ≡ count_by test all + 1
counted_yes test all event e = sum_by_push (λ (v : Event). if test v then 1 else 0) all event ∙ ap (λ (b : Bool). count_by test all + (if b then 1 else 0)) e

counted_no : (test : Event → Bool) (all : List Event) (event : Event) → test event ≡ false → count_by test (all ++ event ∷ []) ≡ count_by test all
counted_no test all event e =
    sum_by_push (λ (v : Event). if test v then 1 else 0) all event ∙ ap (λ (b : Bool). count_by test all + (if b then 1 else 0)) e ∙ add-zero (count_by test all)

wrapped : (n k : ℕ) → n ≡ k % 2 ^ 64 → (n + 1) % 2 ^ 64 ≡ (k + 1) % 2 ^ 64
wrapped n k e = omega (arith, e)

is-same : (a b : ℕ) → a ≡ b → (a == b) ≡ true
is-same a b e = grind (arith, nat_tests)

is-other : (a b : ℕ) → (a ≡ b → ⊥) → (a == b) ≡ false
is-other a b e = grind (arith, nat_tests)

-- one at a place
counts-at : (test : ℕ → Event → Bool) (all : List Event) (event : Event) (counts : List ℕ) (own : ℕ) → own < 16 → ((place : ℕ) → test place event ≡ (own == place))
    → AreCounts test all counts → AreCounts test (all ++ event ∷ []) (slice_set counts own ((slice_index counts own + 1) % 2 ^ 64))
counts-at test all event counts own small is h = record {
  places = length-set counts own ((slice_index counts own + 1) % 2 ^ 64) ∙ h.places;
  each = λ place lt. go place lt (cases_eq place own);
}
  where
    go : (place : ℕ) → place < 16 → (place ≡ own) ⊎ (place ≡ own → ⊥) → slice_index (slice_set counts own ((slice_index counts own + 1) % 2 ^ 64)) place ≡ count_by (test place) (all ++ event ∷ []) % 2 ^ 64
    go place lt (inl same) =
        let fits : own < length counts = let places = h.places in omega (arith, places) in
        ap (slice_index (slice_set counts own ((slice_index counts own + 1) % 2 ^ 64))) same
        ∙ get_or-set_same counts own ((slice_index counts own + 1) % 2 ^ 64) 0 fits
        ∙ wrapped (slice_index counts own) (count_by (test place) all) (ap (slice_index counts) (sym same) ∙ h.each place lt)
        ∙ ap (λ (n : ℕ). n % 2 ^ 64) (sym (counted_yes (test place) all event (is place ∙ is-same own place (sym same))))
    go place lt (inr other) =
        get_or-set_other counts own place ((slice_index counts own + 1) % 2 ^ 64) 0 other ∙ h.each place lt
        ∙ ap (λ (n : ℕ). n % 2 ^ 64) (sym (counted_no (test place) all event (is place ∙ is-other own place (λ e. other (sym e)))))

-- none
counts-kept : (test : ℕ → Event → Bool) (all : List Event) (event : Event) (counts : List ℕ) → ((place : ℕ) → test place event ≡ false)
    → AreCounts test all counts → AreCounts test (all ++ event ∷ []) counts
counts-kept test all event counts none h = record {
  places = h.places;
  each = λ place lt. h.each place lt ∙ ap (λ (n : ℕ). n % 2 ^ 64) (sym (counted_no (test place) all event (none place)));
}

packets-next : (all : List Event) (event : Event) (a : ArrivalsView) → IsSpelledEvent event → AreCounts is_packet_at all a.packets → AreCounts is_packet_at (all ++ event ∷ []) (with_event a event).packets
packets-next all (events.Deliver lane fate) a s h = counts-at is_packet_at all (events.Deliver lane fate) a.packets (lane_place lane) (lane-fits lane s) (λ place. refl) h
packets-next all (events.DeliverDllp lane fate) a s h = counts-kept is_packet_at all (events.DeliverDllp lane fate) a.packets (λ place. refl) h
packets-next all (events.Submit port op) a s h = counts-kept is_packet_at all (events.Submit port op) a.packets (λ place. refl) h
packets-next all (events.Transmit lane) a s h = counts-kept is_packet_at all (events.Transmit lane) a.packets (λ place. refl) h
packets-next all (events.SendDllp lane kind) a s h = counts-kept is_packet_at all (events.SendDllp lane kind) a.packets (λ place. refl) h
packets-next all (events.Timer lane) a s h = counts-kept is_packet_at all (events.Timer lane) a.packets (λ place. refl) h
packets-next all (events.Retrained lane) a s h = counts-kept is_packet_at all (events.Retrained lane) a.packets (λ place. refl) h
packets-next all (events.Forward lane place) a s h = counts-kept is_packet_at all (events.Forward lane place) a.packets (λ p. refl) h
packets-next all (events.Serve place) a s h = counts-kept is_packet_at all (events.Serve place) a.packets (λ p. refl) h
packets-next all (events.Collect port) a s h = counts-kept is_packet_at all (events.Collect port) a.packets (λ place. refl) h

dllps-next : (all : List Event) (event : Event) (a : ArrivalsView) → IsSpelledEvent event → AreCounts is_dllp_at all a.dllps → AreCounts is_dllp_at (all ++ event ∷ []) (with_event a event).dllps
dllps-next all (events.Deliver lane fate) a s h = counts-kept is_dllp_at all (events.Deliver lane fate) a.dllps (λ place. refl) h
dllps-next all (events.DeliverDllp lane fate) a s h = counts-at is_dllp_at all (events.DeliverDllp lane fate) a.dllps (lane_place lane) (lane-fits lane s) (λ place. refl) h
dllps-next all (events.Submit port op) a s h = counts-kept is_dllp_at all (events.Submit port op) a.dllps (λ place. refl) h
dllps-next all (events.Transmit lane) a s h = counts-kept is_dllp_at all (events.Transmit lane) a.dllps (λ place. refl) h
dllps-next all (events.SendDllp lane kind) a s h = counts-kept is_dllp_at all (events.SendDllp lane kind) a.dllps (λ place. refl) h
dllps-next all (events.Timer lane) a s h = counts-kept is_dllp_at all (events.Timer lane) a.dllps (λ place. refl) h
dllps-next all (events.Retrained lane) a s h = counts-kept is_dllp_at all (events.Retrained lane) a.dllps (λ place. refl) h
dllps-next all (events.Forward lane place) a s h = counts-kept is_dllp_at all (events.Forward lane place) a.dllps (λ p. refl) h
dllps-next all (events.Serve place) a s h = counts-kept is_dllp_at all (events.Serve place) a.dllps (λ p. refl) h
dllps-next all (events.Collect port) a s h = counts-kept is_dllp_at all (events.Collect port) a.dllps (λ place. refl) h

plan-kept : (a : ArrivalsView) (event : Event) → ((with_event a event).lose ≡ a.lose) × ((with_event a event).corrupt ≡ a.corrupt)
plan-kept a (events.Deliver lane fate) = (refl, refl)
plan-kept a (events.DeliverDllp lane fate) = (refl, refl)
plan-kept a (events.Submit port op) = (refl, refl)
plan-kept a (events.Transmit lane) = (refl, refl)
plan-kept a (events.SendDllp lane kind) = (refl, refl)
plan-kept a (events.Timer lane) = (refl, refl)
plan-kept a (events.Retrained lane) = (refl, refl)
plan-kept a (events.Forward lane place) = (refl, refl)
plan-kept a (events.Serve place) = (refl, refl)
plan-kept a (events.Collect port) = (refl, refl)

-- ---- fates by the counts

-- the fate of a count, by what is left of it modulo 65,536
abbrev fate_left : ℕ → ℕ → ℕ → Fate
fate_left lose corrupt left =
    if nat_lt 0 lose && nat_lt (left * 40503 % 65536) (65536 / lose) then Lost
    else (if nat_lt 0 corrupt && nat_le (65536 - 65536 / corrupt) (left * 40503 % 65536) then Failed
    else Good)

left : (n k : ℕ) → n ≡ k % 2 ^ 64 → (n + 1) % 2 ^ 64 % 65536 ≡ (k + 1) % 65536
left n k e = omega (arith, e)

fate-next : (lose corrupt n k : ℕ) → n ≡ k % 2 ^ 64 → fate_of lose corrupt ((n + 1) % 2 ^ 64) ≡ fate_of lose corrupt (k + 1)
fate-next lose corrupt n k e = ap (fate_left lose corrupt) (left n k e)

-- the fate that the counts tell is that by the events before
fate-told : (lose corrupt : ℕ) (a : ArrivalsView) (counts : List ℕ) (lane : LaneName) (k : ℕ) (fate : Fate) → (a.lose ≡ lose) × (a.corrupt ≡ corrupt) → slice_index counts (lane_place lane) ≡ k % 2 ^ 64
    → fate ≡ fate_of a.lose a.corrupt (next_on counts lane) → fate ≡ fate_of lose corrupt (k + 1)
fate-told lose corrupt a counts lane k fate plan e f =
    f ∙ ap (λ (l : ℕ). fate_of l a.corrupt (next_on counts lane)) plan.0 ∙ ap (λ (c : ℕ). fate_of lose c (next_on counts lane)) plan.1
    ∙ fate-next lose corrupt (slice_index counts (lane_place lane)) k e

fated : (lose corrupt : ℕ) (all : List Event) (event : Event) (a : ArrivalsView) → IsSpelledEvent event → IsAfter lose corrupt all a → HasFate a event → IsFated lose corrupt all event
fated lose corrupt all (events.Deliver lane fate) a s h f =
    fate-told lose corrupt a a.packets lane (packets_on lane all) fate h.plan (h.packets.each (lane_place lane) (lane-fits lane s)) f
fated lose corrupt all (events.DeliverDllp lane fate) a s h f =
    fate-told lose corrupt a a.dllps lane (dllps_on lane all) fate h.plan (h.dllps.each (lane_place lane) (lane-fits lane s)) f
fated lose corrupt all (events.Submit port op) a s h f = tt
fated lose corrupt all (events.Transmit lane) a s h f = tt
fated lose corrupt all (events.SendDllp lane kind) a s h f = tt
fated lose corrupt all (events.Timer lane) a s h f = tt
fated lose corrupt all (events.Retrained lane) a s h f = tt
fated lose corrupt all (events.Forward lane place) a s h f = tt
fated lose corrupt all (events.Serve place) a s h f = tt
fated lose corrupt all (events.Collect port) a s h f = tt

-- ---- no event, and one more

no-counts : (test : ℕ → Event → Bool) → AreCounts test [] (replicate 16 0)
no-counts test = record { places = length-replicate {A = ℕ} 16 0; each = λ place lt. get_or-replicate 16 place 0 0 lt }

pub after-none : (lose corrupt : ℕ) → IsAfter lose corrupt [] (nothing_arrived lose corrupt)
after-none lose corrupt = record {
  fated = λ before event after e. absurd (not_empty before event after e);
  plan = (refl, refl);
  packets = no-counts is_packet_at;
  dllps = no-counts is_dllp_at;
}

pub after-next : (lose corrupt : ℕ) (before : List Event) (event : Event) (a a' : ArrivalsView) → IsSpelledEvent event → IsAfter lose corrupt before a → IsCounted a event a' → IsAfter lose corrupt (before ++ event ∷ []) a'
after-next lose corrupt before event a a' s h c =
    let kept = plan-kept a event in
    subst (IsAfter lose corrupt (before ++ event ∷ [])) (sym c.counted) (record {
      fated = fated-next lose corrupt before event h.fated (fated lose corrupt before event a s h c.fate);
      plan = (kept.0 ∙ h.plan.0, kept.1 ∙ h.plan.1);
      packets = packets-next before event a s h.packets;
      dllps = dllps-next before event a s h.dllps;
    })
