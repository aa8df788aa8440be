-- What a port knows of its peer's credits, and what of them it used, after any calls.
use Rattle.std.proofs.Common.{◌≡◌, ℕ, ◌+◌, ◌-◌, ◌*◌, ◌/◌, ◌%◌, ◌<◌, ◌≤◌, Bool, true, false, List, [], ◌∷◌, ◌++◌, length, fold, Option, Some, None, Result, Ok, Err, refl, sym, subst, ap, ◌∙◌, arith, add-zero}
use Rattle.std.specs.Prelude.{◌==◌, ◌&&◌, ◌||◌, not, nat_le, is_some, slice_index, slice_get, if◌then◌else◌}
use Rattle.std.proofs.lemmas.List.{append-nil}
use Rattle.std.proofs.lemmas.List.Sums.{fold-append}
use Rattle.std.proofs.lemmas.Bool.Decides.{nat_tests}
use Rattle.dllp_core.specs.declared.packet.Class.{Class}
use Rattle.dllp_core.specs.declared.packet.Class.TheVariants.{Posted, NonPosted, Completion}
use Rattle.dllp_core.specs.declared.packet.Dllp.{Dllp}
use Rattle.dllp_core.specs.declared.packet.Dllp.TheVariants.{Ack, Nak, Update}
use Rattle.dllp_core.specs.declared.fault.DllpFault.{DllpFault}
use Rattle.dllp_core.specs.declared.fault.DllpFault.TheVariants as faults
use Rattle.dllp_core.specs.Layout.{Spells}
use Rattle.tlp_core.specs.TlpView.{TlpView}
use Rattle.flow_control.specs.declared.needs.Need.{Need}
use Rattle.flow_control.specs.declared.limits.LaneCredits.{LaneCredits}
use Rattle.flow_control.specs.Limits.{least_units}
use Rattle.flow_control.specs.Needs.{need_of}
use Rattle.flow_control.specs.Credits.{CreditGateView, same, gate_of, gate_covers, after_consume, after_limit, first_gate}
use Rattle.lane_core.specs.declared.packet.Fate.TheVariants.{Good}
use Rattle.lane_core.specs.Steps.{after_dllp}
use Rattle.link_crc.specs.declared.check.Check.{Check}
use Rattle.link_crc.specs.Checks.{passed}
use Rattle.port_core.specs.declared.init.LinkState.{LinkState}
use Rattle.port_core.specs.declared.init.LinkState.TheVariants.{Inactive, Init1, Init2, Active}
use Rattle.port_core.specs.declared.init.Advertised.{Advertised}
use Rattle.port_core.specs.declared.init.FirstCredits.{FirstCredits}
use Rattle.port_core.specs.declared.dllp.InitStage.{InitStage}
use Rattle.port_core.specs.declared.dllp.InitStage.TheVariants.{First, Second}
use Rattle.port_core.specs.declared.dllp.LinkDllp.{LinkDllp}
use Rattle.port_core.specs.declared.dllp.LinkDllp.TheVariants.{Init, Other}
use Rattle.port_core.specs.declared.fault.EnterRefusal.{EnterRefusal}
use Rattle.port_core.specs.declared.fault.EnterRefusal.TheVariants as refusals
use Rattle.port_core.specs.declared.fault.DllpRefusal.TheVariants as wrong
use Rattle.port_core.specs.declared.port.DllpReceived.TheVariants.{Took, Gone}
use Rattle.port_core.specs.declared.port.Choice.{Choice}
use Rattle.port_core.specs.declared.port.Choice.TheVariants as choices
use Rattle.port_core.specs.Init.{nothing_advertised, first_kept, or_infinite, advertised_with, fi1, is_allowed, credits_of, first_of, is_up, activated}
use Rattle.port_core.specs.Dllps.{link_reading}
use Rattle.port_core.specs.Incoming.{is_good}
use Rattle.port_core.specs.Outgoing.{leaves_at_most, ack_or_nak, may_learn, begun}
use Rattle.port_core.specs.Dues.{due_all_init}
use Rattle.port_core.specs.Port.{PortView, new_port, recorded, state_after, refusal_in, refusal_of, init_answer, after_init_in, count_to, is_given, up_answer, after_up, read_answer, after_read, is_inactive, choice_of, after_choice, refreshed_in}
use Rattle.port_core.specs.Runs.{Call, Up, Down, Receive, ReceiveDllp, Free, Enter, Next, Refresh, Replay, Retrained, AreBytes, IsCall, AreCalls, IsOfFewUnits, AreOfFewUnits, Story, story_of, heard_if, without_held, with_entered, with_port, after_call, after_calls, advertised_by, advertised_in, limited_by, IsCovered, IsAllowance, CoversHeaders, CoversUnits, header_of, units_of, headers_in, units_in}
use Rattle.port_core.proofs.Dllps.{is_active, IsSpelled, is-read}
use Rattle.port_core.proofs.Counts.{IsSmall, longer}
use Rattle.port_core.proofs.Stories.{packet_by}

-- ---- one counter

positive : (start first : ℕ) → start ≡ first → 0 < first → (start == 0) ≡ false
positive start first e h = grind (arith, nat_tests)

or-true : (a b : Bool) → (a || b) ≡ true → a ≡ false → b ≡ true
or-true true b h e = cc
or-true false b h e = h

and-true : (a b : Bool) → (a && b) ≡ true → (a ≡ true) × (b ≡ true)
and-true true b h = (refl, h)
and-true false b h = cc

at-most : (m n : ℕ) → nat_le m n ≡ true → m ≤ n
at-most m n h = grind (arith, nat_tests)

if-false : {A : Type 0} (b : Bool) (x y : A) → b ≡ false → (if b then x else y) ≡ y
if-false true x y e = cc
if-false false x y e = refl

new-header : (n : ℕ) → n ≤ 127 → IsAllowance 127 256 n n n (n % 256) 0 0
new-header n h =
    record {
      start_is = refl;
      limit_is = λ pos. omega (arith, h);
      covered = λ pos. record { known = n; limit_is = refl; consumed_is = omega arith; used_known = omega arith; unused = omega (arith, h) };
    }

new-units : (n : ℕ) → n ≤ 2047 → IsAllowance 2047 4096 n n n (n % 4096) 0 0
new-units n h =
    record {
      start_is = refl;
      limit_is = λ pos. omega (arith, h);
      covered = λ pos. record { known = n; limit_is = refl; consumed_is = omega arith; used_known = omega arith; unused = omega (arith, h) };
    }

-- an UpdateFC

header-learned : (new consumed used : ℕ) → new < 256 → (new + 256 - consumed) % 256 ≤ 127 → consumed ≡ used % 256 → IsCovered 127 256 new consumed used
header-learned new consumed used h most e =
    record {
      known = used + (new + 256 - consumed) % 256;
      limit_is = omega (arith, h, e);
      consumed_is = e;
      used_known = omega arith;
      unused = omega (arith, most);
    }

units-learned : (new consumed used : ℕ) → new < 4096 → (new + 4096 - consumed) % 4096 ≤ 2047 → consumed ≡ used % 4096 → IsCovered 2047 4096 new consumed used
units-learned new consumed used h most e =
    record {
      known = used + (new + 4096 - consumed) % 4096;
      limit_is = omega (arith, h, e);
      consumed_is = e;
      used_known = omega arith;
      unused = omega (arith, most);
    }

header-limited : (first last start limit consumed used new : ℕ) → new < 256 → leaves_at_most 127 256 start (if start == 0 then limit else new) consumed ≡ true
    → IsAllowance 127 256 first last start limit consumed used → IsAllowance 127 256 first new start (if start == 0 then limit else new) consumed used
header-limited first last start limit consumed used new h t k =
    record {
      start_is = k.start_is;
      limit_is = λ pos. if-false (start == 0) limit new (positive start first k.start_is pos);
      covered = λ pos.
          let finite = positive start first k.start_is pos in
          let is_new = if-false (start == 0) limit new finite in
          let most = at-most _ _ (or-true (start == 0) _ t finite) in
          subst (λ (x : ℕ). IsCovered 127 256 x consumed used) (sym is_new)
          (header-learned new consumed used h (subst (λ (x : ℕ). (x + 256 - consumed) % 256 ≤ 127) is_new most) (k.covered pos).consumed_is);
    }

units-limited : (first last start limit consumed used new : ℕ) → new < 4096 → leaves_at_most 2047 4096 start (if start == 0 then limit else new) consumed ≡ true
    → IsAllowance 2047 4096 first last start limit consumed used → IsAllowance 2047 4096 first new start (if start == 0 then limit else new) consumed used
units-limited first last start limit consumed used new h t k =
    record {
      start_is = k.start_is;
      limit_is = λ pos. if-false (start == 0) limit new (positive start first k.start_is pos);
      covered = λ pos.
          let finite = positive start first k.start_is pos in
          let is_new = if-false (start == 0) limit new finite in
          let most = at-most _ _ (or-true (start == 0) _ t finite) in
          subst (λ (x : ℕ). IsCovered 2047 4096 x consumed used) (sym is_new)
          (units-learned new consumed used h (subst (λ (x : ℕ). (x + 4096 - consumed) % 4096 ≤ 2047) is_new most) (k.covered pos).consumed_is);
    }

-- a packet goes

header-room : (limit consumed used known n : ℕ) → n ≤ 127 → limit ≡ known % 256 → consumed ≡ used % 256 → used ≤ known → known ≤ used + 127
    → (limit + 256 - (consumed + n) % 256) % 256 ≤ 128 → used + n ≤ known
header-room limit consumed used known n a b c d e f = omega (arith, a, b, c, d, e, f)

units-room : (limit consumed used known n : ℕ) → n ≤ 2047 → limit ≡ known % 4096 → consumed ≡ used % 4096 → used ≤ known → known ≤ used + 2047
    → (limit + 4096 - (consumed + n) % 4096) % 4096 ≤ 2048 → used + n ≤ known
units-room limit consumed used known n a b c d e f = omega (arith, a, b, c, d, e, f)

header-spent : (limit consumed used n : ℕ) → n ≤ 127 → (limit + 256 - (consumed + n) % 256) % 256 ≤ 128 → IsCovered 127 256 limit consumed used
    → IsCovered 127 256 limit ((consumed + n) % 256) (used + n)
header-spent limit consumed used n h f k =
    let room = header-room limit consumed used k.known n h k.limit_is k.consumed_is k.used_known k.unused f in
    let same : consumed ≡ used % 256 = k.consumed_is in
    record { known = k.known; limit_is = k.limit_is; consumed_is = omega (arith, same); used_known = room; unused = let u = k.unused in omega (arith, u) }

units-spent : (limit consumed used n : ℕ) → n ≤ 2047 → (limit + 4096 - (consumed + n) % 4096) % 4096 ≤ 2048 → IsCovered 2047 4096 limit consumed used
    → IsCovered 2047 4096 limit ((consumed + n) % 4096) (used + n)
units-spent limit consumed used n h f k =
    let room = units-room limit consumed used k.known n h k.limit_is k.consumed_is k.used_known k.unused f in
    let same : consumed ≡ used % 4096 = k.consumed_is in
    record { known = k.known; limit_is = k.limit_is; consumed_is = omega (arith, same); used_known = room; unused = let u = k.unused in omega (arith, u) }

header-consumed : (first last start limit consumed used n : ℕ) → n ≤ 127 → ((start == 0) || nat_le ((limit + 256 - (consumed + n) % 256) % 256) 128) ≡ true
    → IsAllowance 127 256 first last start limit consumed used → IsAllowance 127 256 first last start limit ((consumed + n) % 256) (used + n)
header-consumed first last start limit consumed used n h t k =
    record {
      start_is = k.start_is;
      limit_is = k.limit_is;
      covered = λ pos. header-spent limit consumed used n h (at-most _ _ (or-true (start == 0) _ t (positive start first k.start_is pos))) (k.covered pos);
    }

units-consumed : (first last start limit consumed used n : ℕ) → n ≤ 2047 → ((start == 0) || nat_le ((limit + 4096 - (consumed + n) % 4096) % 4096) 2048) ≡ true
    → IsAllowance 2047 4096 first last start limit consumed used → IsAllowance 2047 4096 first last start limit ((consumed + n) % 4096) (used + n)
units-consumed first last start limit consumed used n h t k =
    record {
      start_is = k.start_is;
      limit_is = k.limit_is;
      covered = λ pos. units-spent limit consumed used n h (at-most _ _ (or-true (start == 0) _ t (positive start first k.start_is pos))) (k.covered pos);
    }

-- ---- the two counters of a class

abbrev pub Covers : Class → CreditGateView → FirstCredits → FirstCredits → ℕ → ℕ → Type 0
Covers c g first last headers units =
    IsAllowance 127 256 first.header last.header (gate_of c g).header.first (gate_of c g).header.limit (gate_of c g).header.consumed headers
    × IsAllowance 2047 4096 first.units last.units (gate_of c g).units.first (gate_of c g).units.limit (gate_of c g).units.consumed units

abbrev pub IsAllowed : FirstCredits → Type 0
IsAllowed first = (first.header ≤ 127) × (first.units ≤ 2047)

new-covers : (c : Class) (l : LaneCredits) → IsAllowed (first_of l c) → Covers c (first_gate l) (first_of l c) (first_of l c) 0 0
new-covers Posted l h = (new-header l.ph h.0, new-units l.pd h.1)
new-covers NonPosted l h = (new-header l.nph h.0, new-units l.npd h.1)
new-covers Completion l h = (new-header l.cplh h.0, new-units l.cpld h.1)

abbrev credits : ℕ → ℕ → FirstCredits
credits h u = record { header = h; units = u }

limited-covers : (c d : Class) (g : CreditGateView) (first last : FirstCredits) (headers units h u : ℕ) → h < 256 → u < 4096 → may_learn g d h u ≡ true
    → Covers c g first last headers units → Covers c (after_limit g d h u) first (if same c d then credits h u else last) headers units
limited-covers Posted Posted g first last headers units h u a b t k =
    (header-limited _ _ _ _ _ headers h a (and-true _ _ t).0 k.0, units-limited _ _ _ _ _ units u b (and-true _ _ t).1 k.1)
limited-covers Posted NonPosted g first last headers units h u a b t k = k
limited-covers Posted Completion g first last headers units h u a b t k = k
limited-covers NonPosted Posted g first last headers units h u a b t k = k
limited-covers NonPosted NonPosted g first last headers units h u a b t k =
    (header-limited _ _ _ _ _ headers h a (and-true _ _ t).0 k.0, units-limited _ _ _ _ _ units u b (and-true _ _ t).1 k.1)
limited-covers NonPosted Completion g first last headers units h u a b t k = k
limited-covers Completion Posted g first last headers units h u a b t k = k
limited-covers Completion NonPosted g first last headers units h u a b t k = k
limited-covers Completion Completion g first last headers units h u a b t k =
    (header-limited _ _ _ _ _ headers h a (and-true _ _ t).0 k.0, units-limited _ _ _ _ _ units u b (and-true _ _ t).1 k.1)

abbrev need : Class → ℕ → ℕ → Need
need d h u = record { class = d; header = h; units = u }

consumed-covers : (c d : Class) (g : CreditGateView) (first last : FirstCredits) (headers units h u : ℕ) → h ≤ 127 → u ≤ 2047 → gate_covers g (need d h u) ≡ true
    → Covers c g first last headers units
    → Covers c (after_consume g (need d h u)) first last (headers + (if same c d then h else 0)) (units + (if same c d then u else 0))
consumed-covers Posted Posted g first last headers units h u a b t k =
    (header-consumed _ _ _ _ _ headers h a (and-true _ _ t).0 k.0, units-consumed _ _ _ _ _ units u b (and-true _ _ t).1 k.1)
consumed-covers Posted NonPosted g first last headers units h u a b t k = rw (add-zero headers, add-zero units) k
consumed-covers Posted Completion g first last headers units h u a b t k = rw (add-zero headers, add-zero units) k
consumed-covers NonPosted Posted g first last headers units h u a b t k = rw (add-zero headers, add-zero units) k
consumed-covers NonPosted NonPosted g first last headers units h u a b t k =
    (header-consumed _ _ _ _ _ headers h a (and-true _ _ t).0 k.0, units-consumed _ _ _ _ _ units u b (and-true _ _ t).1 k.1)
consumed-covers NonPosted Completion g first last headers units h u a b t k = rw (add-zero headers, add-zero units) k
consumed-covers Completion Posted g first last headers units h u a b t k = rw (add-zero headers, add-zero units) k
consumed-covers Completion NonPosted g first last headers units h u a b t k = rw (add-zero headers, add-zero units) k
consumed-covers Completion Completion g first last headers units h u a b t k =
    (header-consumed _ _ _ _ _ headers h a (and-true _ _ t).0 k.0, units-consumed _ _ _ _ _ units u b (and-true _ _ t).1 k.1)

-- ---- what is known of the peer

pub record IsKnown (state : LinkState) (peer : Advertised) (gate : CreditGateView) (heard : List LinkDllp) (used : List Need) : Type 0 where
  pub peer_is : peer ≡ advertised_in heard
  pub allowed : (c : Class) → IsAllowed (first_of (credits_of peer) c)
  pub up : is_up state ≡ fi1 peer
  pub quiet : is_up state ≡ false → (c : Class) (first : FirstCredits) → fold (limited_by c) first heard ≡ first
  pub unused : is_active state ≡ false → used ≡ []
  pub covers : is_up state ≡ true → (c : Class) → Covers c gate (first_of (credits_of peer) c) (fold (limited_by c) (first_of (credits_of peer) c) heard) (headers_in c used) (units_in c used)

abbrev pub KnownPort : PortView → List LinkDllp → List Need → Type 0
KnownPort p heard used = IsKnown p.state p.peer p.sender.gate heard used

none-allowed : (c : Class) → IsAllowed (first_of (credits_of nothing_advertised) c)
none-allowed Posted = (omega arith, omega arith)
none-allowed NonPosted = (omega arith, omega arith)
none-allowed Completion = (omega arith, omega arith)

inactive-known : (gate : CreditGateView) → IsKnown Inactive nothing_advertised gate [] []
inactive-known gate = record { peer_is = refl; allowed = none-allowed; up = refl; quiet = λ e c first. refl; unused = λ e. refl; covers = λ e. cc }

init1-known : (gate : CreditGateView) → IsKnown Init1 nothing_advertised gate [] []
init1-known gate = record { peer_is = refl; allowed = none-allowed; up = refl; quiet = λ e c first. refl; unused = λ e. refl; covers = λ e. cc }

-- Flag FI2

active-known : (peer : Advertised) (gate : CreditGateView) (heard : List LinkDllp) (used : List Need) → IsKnown Init2 peer gate heard used → IsKnown Active peer gate heard used
active-known peer gate heard used k =
    record { peer_is = k.peer_is; allowed = k.allowed; up = k.up; quiet = λ e. cc; unused = λ e. cc; covers = λ e. k.covers refl }

activated-known : (state : LinkState) (peer : Advertised) (gate : CreditGateView) (heard : List LinkDllp) (used : List Need) → IsKnown state peer gate heard used
    → IsKnown (activated state) peer gate heard used
activated-known Inactive peer gate heard used k = k
activated-known Init1 peer gate heard used k = k
activated-known Init2 peer gate heard used k = active-known peer gate heard used k
activated-known Active peer gate heard used k = k

-- ---- an InitFC

abbrev one_more : List LinkDllp → LinkDllp → List LinkDllp
one_more heard d = heard ++ d ∷ []

advertised-more : (heard : List LinkDllp) (d : LinkDllp) → advertised_in (one_more heard d) ≡ advertised_by (advertised_in heard) d
advertised-more heard d = fold-append advertised_by nothing_advertised heard (d ∷ [])

limited-more : (c : Class) (first : FirstCredits) (heard : List LinkDllp) (d : LinkDllp) → fold (limited_by c) first (one_more heard d) ≡ limited_by c (fold (limited_by c) first heard) d
limited-more c first heard d = fold-append (limited_by c) first heard (d ∷ [])

kept-allowed : (o : Option FirstCredits) (new : FirstCredits) → IsAllowed new → IsAllowed (or_infinite o) → IsAllowed (or_infinite (first_kept o new))
kept-allowed None new h k = h
kept-allowed (Some old) new h k = k

with-allowed : (c d : Class) (a : Advertised) (new : FirstCredits) → IsAllowed new → IsAllowed (first_of (credits_of a) c) → IsAllowed (first_of (credits_of (advertised_with a d new)) c)
with-allowed Posted Posted a new h k = kept-allowed a.posted new h k
with-allowed Posted NonPosted a new h k = k
with-allowed Posted Completion a new h k = k
with-allowed NonPosted Posted a new h k = k
with-allowed NonPosted NonPosted a new h k = kept-allowed a.non_posted new h k
with-allowed NonPosted Completion a new h k = k
with-allowed Completion Posted a new h k = k
with-allowed Completion NonPosted a new h k = k
with-allowed Completion Completion a new h k = kept-allowed a.completion new h k

is-allowed : (new : FirstCredits) → is_allowed new ≡ true → IsAllowed new
is-allowed new t = let b = and-true _ _ t in (at-most _ _ b.0, at-most _ _ b.1)

first-covers : (c : Class) (peer : Advertised) (heard : List LinkDllp) (used : List Need) → IsAllowed (first_of (credits_of peer) c)
    → fold (limited_by c) (first_of (credits_of peer) c) heard ≡ first_of (credits_of peer) c → used ≡ []
    → Covers c (first_gate (credits_of peer)) (first_of (credits_of peer) c) (fold (limited_by c) (first_of (credits_of peer) c) heard) (headers_in c used) (units_in c used)
first-covers c peer heard used h e none = rw (e, none) (new-covers c (credits_of peer) h)

recorded-known : (b : Bool) (p : PortView) (peer : Advertised) (heard : List LinkDllp) (used : List Need) → fi1 peer ≡ b → p.state ≡ Init1
    → peer ≡ advertised_in heard → ((c : Class) → IsAllowed (first_of (credits_of peer) c)) → ((c : Class) (first : FirstCredits) → fold (limited_by c) first heard ≡ first) → used ≡ []
    → KnownPort (if b then record p { state = Init2; peer = peer; sender = begun p.sender (credits_of peer); due = due_all_init p.due } else record p { peer = peer }) heard used
recorded-known true p peer heard used f e told allowed quiet none =
    record {
      peer_is = told;
      allowed = allowed;
      up = sym f;
      quiet = λ h. cc;
      unused = λ h. none;
      covers = λ h c. first-covers c peer heard used (allowed c) (quiet c _) none;
    }
recorded-known false p peer heard used f e told allowed quiet none =
    record {
      peer_is = told;
      allowed = allowed;
      up = rw (e, f) refl;
      quiet = λ h. quiet;
      unused = λ h. none;
      covers = λ h. cc (e, h);
    }

is-some : (o : Option FirstCredits) (new : FirstCredits) → is_some o ≡ true → first_kept o new ≡ o
is-some None new e = cc
is-some (Some old) new e = refl

all-heard : (class : Class) (a : Advertised) (new : FirstCredits) → fi1 a ≡ true → advertised_with a class new ≡ a
all-heard Posted a new h =
    let with_it : Option FirstCredits → Advertised = λ o. record { posted = o; non_posted = a.non_posted; completion = a.completion } in
    ap with_it (is-some a.posted new (and-true _ _ (and-true _ _ h).0).0)
all-heard NonPosted a new h =
    let with_it : Option FirstCredits → Advertised = λ o. record { posted = a.posted; non_posted = o; completion = a.completion } in
    ap with_it (is-some a.non_posted new (and-true _ _ (and-true _ _ h).0).1)
all-heard Completion a new h =
    let with_it : Option FirstCredits → Advertised = λ o. record { posted = a.posted; non_posted = a.non_posted; completion = o } in
    ap with_it (is-some a.completion new (and-true _ _ h).1)

-- a DLLP that tells nothing new
more-known : (state : LinkState) (peer : Advertised) (gate : CreditGateView) (heard : List LinkDllp) (used : List Need) (d : LinkDllp)
    → advertised_by peer d ≡ peer → ((c : Class) (last : FirstCredits) → limited_by c last d ≡ last)
    → IsKnown state peer gate heard used → IsKnown state peer gate (one_more heard d) used
more-known state peer gate heard used d e f k =
    record {
      peer_is = sym e ∙ ap (λ (a : Advertised). advertised_by a d) k.peer_is ∙ sym (advertised-more heard d);
      allowed = k.allowed;
      up = k.up;
      quiet = λ h c first. limited-more c first heard d ∙ f c _ ∙ k.quiet h c first;
      unused = k.unused;
      covers = λ h c. rw (limited-more c (first_of (credits_of peer) c) heard d, f c (fold (limited_by c) (first_of (credits_of peer) c) heard)) (k.covers h c);
    }

nothing-more : (p : PortView) (heard : List LinkDllp) (used : List Need) → KnownPort p heard used → KnownPort p (heard ++ []) used
nothing-more p heard used k = rw (append-nil heard) k

init1-taken : (b : Bool) (p : PortView) (heard : List LinkDllp) (used : List Need) (stage : InitStage) (class : Class) (first : FirstCredits) → is_allowed first ≡ b → p.state ≡ Init1
    → KnownPort p heard used
    → KnownPort (if b then recorded p class first else p) (heard ++ heard_if (if b then Ok Took else Err wrong.CreditLimit) (Ok (Init stage class first))) used
init1-taken true p heard used stage class first t e k =
    let peer = advertised_with p.peer class first in
    recorded-known (fi1 peer) p peer (one_more heard (Init stage class first)) used refl e
    (ap (λ (a : Advertised). advertised_with a class first) k.peer_is ∙ sym (advertised-more heard (Init stage class first)))
    (λ c. with-allowed c class p.peer first (is-allowed first t) (k.allowed c))
    (λ c old. limited-more c old heard (Init stage class first) ∙ k.quiet (rw e refl) c old)
    (k.unused (rw e refl))
init1-taken false p heard used stage class first t e k = nothing-more p heard used k

init-known : (state : LinkState) (p : PortView) (heard : List LinkDllp) (used : List Need) (stage : InitStage) (class : Class) (first : FirstCredits) → p.state ≡ state
    → KnownPort p heard used
    → KnownPort (after_init_in state p stage class first) (heard ++ heard_if (init_answer state stage first) (Ok (Init stage class first))) used
init-known Inactive p heard used stage class first e k = nothing-more p heard used k
init-known Init1 p heard used stage class first e k = init1-taken (is_allowed first) p heard used stage class first refl e k
init-known Init2 p heard used First class first e k = nothing-more p heard used k
init-known Init2 p heard used Second class first e k =
    let now = subst (λ (state : LinkState). IsKnown state p.peer p.sender.gate heard used) e k in
    active-known p.peer p.sender.gate (one_more heard (Init Second class first)) used
    (more-known Init2 p.peer p.sender.gate heard used (Init Second class first) (all-heard class p.peer first (sym now.up)) (λ c last. refl) now)
init-known Active p heard used stage class first e k = nothing-more p heard used k

-- ---- Acks, Naks and UpdateFCs

-- what an UpdateFC tells fits its fields
abbrev pub HasCredits : Dllp → Type 0
HasCredits (Ack n) = Unit {0}
HasCredits (Nak n) = Unit {0}
HasCredits (Update class header units) = (header < 256) × (units < 4096)

answered-known : (b : Bool) (p q : PortView) (heard : List LinkDllp) (used : List Need) (d : LinkDllp) → advertised_by q.peer d ≡ q.peer → ((c : Class) (last : FirstCredits) → limited_by c last d ≡ last)
    → KnownPort p heard used → KnownPort q heard used → KnownPort (if b then q else p) (heard ++ heard_if (if b then Ok Took else Err wrong.NotOutstanding) (Ok d)) used
answered-known true p q heard used d e f k l = more-known q.state q.peer q.sender.gate heard used d e f l
answered-known false p q heard used d e f k l = nothing-more p heard used k

learned-known : (b : Bool) (p : PortView) (heard : List LinkDllp) (used : List Need) (class : Class) (header units : ℕ) → may_learn p.sender.gate class header units ≡ b → is_up p.state ≡ true
    → header < 256 → units < 4096 → KnownPort p heard used
    → KnownPort (if b then record p { state = activated p.state; sender = after_dllp p.sender (Update class header units) Good } else p) (heard ++ heard_if (if b then Ok Took else Err wrong.CreditLimit) (Ok (Other (Update class header units)))) used
learned-known true p heard used class header units t up h u k =
    let d = Other (Update class header units) in
    activated-known p.state p.peer (after_limit p.sender.gate class header units) (one_more heard d) used
    (record {
      peer_is = k.peer_is ∙ sym (advertised-more heard d);
      allowed = k.allowed;
      up = k.up;
      quiet = λ e. cc (up, e);
      unused = k.unused;
      covers = λ e c. rw (limited-more c (first_of (credits_of p.peer) c) heard d)
          (limited-covers c class p.sender.gate (first_of (credits_of p.peer) c) (fold (limited_by c) (first_of (credits_of p.peer) c) heard) (headers_in c used) (units_in c used) header units h u t (k.covers up c));
    })
learned-known false p heard used class header units t up h u k = nothing-more p heard used k

-- the port behind an Ack or Nak that counts
abbrev given-ack : PortView → ℕ → Bool → PortView
given-ack p n is_nak = record p { sender = after_dllp p.sender (ack_or_nak n is_nak) Good; given = p.given - count_to p n }

up-known : (p : PortView) (heard : List LinkDllp) (used : List Need) (d : Dllp) → HasCredits d → is_up p.state ≡ true → KnownPort p heard used
    → KnownPort (after_up p d) (heard ++ heard_if (up_answer p d) (Ok (Other d))) used
up-known p heard used (Ack n) h up k = answered-known (is_given p n) p (given-ack p n false) heard used (Other (Ack n)) refl (λ c last. refl) k k
up-known p heard used (Nak n) h up k = answered-known (is_given p n) p (given-ack p n true) heard used (Other (Nak n)) refl (λ c last. refl) k k
up-known p heard used (Update class header units) h up k =
    learned-known (may_learn p.sender.gate class header units) p heard used class header units refl up h.0 h.1 k

other-known : (b : Bool) (p : PortView) (heard : List LinkDllp) (used : List Need) (d : Dllp) → HasCredits d → is_up p.state ≡ b → KnownPort p heard used
    → KnownPort (if b then after_up p d else p) (heard ++ heard_if (if b then up_answer p d else Ok Gone) (Ok (Other d))) used
other-known true p heard used d h up k = up-known p heard used d h up k
other-known false p heard used d h up k = nothing-more p heard used k

read-known : (p : PortView) (r : Result LinkDllp DllpFault) (heard : List LinkDllp) (used : List Need) → ((d : Dllp) → r ≡ Ok (Other d) → HasCredits d) → KnownPort p heard used
    → KnownPort (after_read p r) (heard ++ heard_if (read_answer p r) r) used
read-known p (Ok (Init stage class first)) heard used h k = init-known p.state p heard used stage class first refl k
read-known p (Ok (Other d)) heard used h k = other-known (is_up p.state) p heard used d (h d refl) refl k
read-known p (Err faults.Short) heard used h k = nothing-more p heard used k
read-known p (Err faults.Kind) heard used h k = nothing-more p heard used k
read-known p (Err faults.Scaled) heard used h k = nothing-more p heard used k

good-known : (b : Bool) (p : PortView) (r : Result LinkDllp DllpFault) (heard : List LinkDllp) (used : List Need) → ((d : Dllp) → r ≡ Ok (Other d) → HasCredits d) → KnownPort p heard used
    → KnownPort (if b then p else after_read p r) (heard ++ heard_if (if b then Ok Gone else read_answer p r) r) used
good-known true p r heard used h k = nothing-more p heard used k
good-known false p r heard used h k = read-known p r heard used h k

header-fits : (x y : ℕ) → y < 256 → x % 64 * 4 + y / 64 < 256
header-fits x y h = omega (arith, h)

twelve-fits : (x y : ℕ) → y < 256 → x % 16 * 256 + y < 4096
twelve-fits x y h = omega (arith, h)

has-credits : (bytes : List ℕ) (d : Dllp) → AreBytes bytes → Spells bytes d → HasCredits d
has-credits bytes (Ack n) h s = tt
has-credits bytes (Nak n) h s = tt
has-credits bytes (Update class header units) h s = (
  subst (λ (m : ℕ). m < 256) (sym s.has_header) (header-fits (slice_index bytes 1) (slice_index bytes 2) (h 2)),
  subst (λ (m : ℕ). m < 4096) (sym s.has_units) (twelve-fits (slice_index bytes 2) (slice_index bytes 3) (h 3)),
)

-- ---- a packet enters

covered-when : (b : Bool) (kept : ℕ) (n : Need) → (if b then (if nat_le 2047 kept then Some refusals.WindowFull else None) else Some (refusals.NoCredits n.class)) ≡ None → b ≡ true
covered-when true kept n e = refl
covered-when false kept n e = cc

entered-known : (p : PortView) (heard : List LinkDllp) (used : List Need) (n : Need) → p.state ≡ Active → gate_covers p.sender.gate n ≡ true → IsSmall n → KnownPort p heard used
    → IsKnown p.state p.peer (after_consume p.sender.gate n) heard (used ++ n ∷ [])
entered-known p heard used n e t small k =
    record {
      peer_is = k.peer_is;
      allowed = k.allowed;
      up = k.up;
      quiet = k.quiet;
      unused = λ h. cc (e, h);
      covers = λ h c. rw (longer (header_of c) used n, longer (units_of c) used n)
          (consumed-covers c n.class p.sender.gate (first_of (credits_of p.peer) c) (fold (limited_by c) (first_of (credits_of p.peer) c) heard) (headers_in c used) (units_in c used) n.header n.units small.0 small.1 t (k.covers h c));
    }

entered-at : (state : LinkState) (s : Story) (t : TlpView) → s.port.state ≡ state → refusal_in state s.port.sender (need_of t) ≡ None → IsSmall (need_of t)
    → KnownPort s.port s.heard s.used → KnownPort (with_entered s t None).port (with_entered s t None).heard (with_entered s t None).used
entered-at Inactive s t e h small k = cc
entered-at Init1 s t e h small k = cc
entered-at Init2 s t e h small k = cc
entered-at Active s t e h small k =
    entered-known s.port s.heard s.used (need_of t) e (covered-when (gate_covers s.port.sender.gate (need_of t)) (length s.port.sender.sending.kept) (need_of t) h) small k

abbrev pub KnownIn : Story → Type 0
KnownIn s = KnownPort s.port s.heard s.used

enter-known : (o : Option EnterRefusal) (s : Story) (t : TlpView) → refusal_of s.port (need_of t) ≡ o → IsSmall (need_of t) → KnownIn s → KnownIn (with_entered s t o)
enter-known (Some refusal) s t e small k = k
enter-known None s t e small k = entered-at s.port.state s t refl e small k

-- ---- any call

packet-known : (b : Bool) (s : Story) (packet : List ℕ) (check : Check) → KnownIn s → KnownIn (packet_by b s packet check)
packet-known true s packet check k = by-good (is_good packet check) s k
  where
    by-good : (g : Bool) (s : Story) → KnownIn s → IsKnown (state_after s.port.state g) s.port.peer s.port.sender.gate s.heard s.used
    by-good true s k = activated-known s.port.state s.port.peer s.port.sender.gate s.heard s.used k
    by-good false s k = k
packet-known false s packet check k = k

freed-known : (o : Option Need) (s : Story) (place : ℕ) → KnownIn s → KnownIn (without_held s place o)
freed-known None s place k = k
freed-known (Some n) s place k = k

sent-known : (choice : Choice) (s : Story) → KnownIn s → KnownIn (with_port s (after_choice s.port choice))
sent-known choices.Nothing s k = k
sent-known choices.Answer s k = k
sent-known (choices.Init class) s k = k
sent-known (choices.Update class) s k = k
sent-known choices.Packet s k = k

refreshed-known : (state : LinkState) (s : Story) → KnownIn s → KnownIn (with_port s (refreshed_in state s.port))
refreshed-known Inactive s k = k
refreshed-known Init1 s k = k
refreshed-known Init2 s k = k
refreshed-known Active s k = k

-- a need of few data units is small
few : (c : Class) → least_units c ≤ 2047
few Posted = omega arith
few NonPosted = omega arith
few Completion = omega arith

small-need : ((t : TlpView) → (need_of t).header ≡ 1) → (t : TlpView) → (need_of t).units ≤ least_units (need_of t).class → IsSmall (need_of t)
small-need header t few_units =
    let least = few (need_of t).class in
    let one = header t in
    (omega (arith, one), omega (arith, few_units, least))

pub record Believes : Type 0 where
  pub spelled : IsSpelled
  pub header : (t : TlpView) → (need_of t).header ≡ 1

call-known : Believes → (s : Story) (call : Call) → IsCall call → IsOfFewUnits call → KnownIn s → KnownIn (after_call s call)
call-known b s Up is of k = init1-known _
call-known b s Down is of k = inactive-known _
call-known b s (Receive packet check) is of k = packet-known (is_up s.port.state) s packet check k
call-known b s (ReceiveDllp bytes check) is of k =
    good-known (not (passed check) || is_inactive s.port.state) s.port (link_reading bytes) s.heard s.used (λ d e. has-credits bytes d is (b.spelled bytes d (is-read bytes d e))) k
call-known b s (Free place) is of k = freed-known (slice_get s.held place) s place k
call-known b s (Enter t) is of k = enter-known (refusal_of s.port (need_of t)) s t refl (small-need b.header t of) k
call-known b s Next is of k = sent-known (choice_of s.port) s k
call-known b s Refresh is of k = refreshed-known s.port.state s k
call-known b s Replay is of k = k
call-known b s Retrained is of k = k

pub calls-known : Believes → (s : Story) (calls : List Call) → AreCalls calls → AreOfFewUnits calls → KnownIn s → KnownIn (after_calls s calls)
calls-known b s [] are of k = k
calls-known b s (call ∷ calls) are of k = calls-known b (after_call s call) calls are.1 of.1 (call-known b s call are.0 of.0 k)

pub new-known : (ours : LaneCredits) → KnownIn (story_of (new_port ours))
new-known ours = inactive-known _

-- what holds of what the peer advertised holds of what the port recorded
pub told : (s : Story) → KnownIn s → is_up s.port.state ≡ true → (c : Class) → CoversHeaders c s × CoversUnits c s
told s k up c =
    subst (λ (a : Advertised). Covers c s.port.sender.gate (first_of (credits_of a) c) (fold (limited_by c) (first_of (credits_of a) c) s.heard) (headers_in c s.used) (units_in c s.used))
    k.peer_is (k.covers up c)
