-- At most so many hops are left, by the credits of the lanes and the tags of the requesters.
use Rattle.std.proofs.Common.{ℕ, ◌≡◌, ◌↔◌, ◌⊎◌, inl, inr, ◌+◌, ◌*◌, ◌<◌, ◌≤◌, zero, suc, Bool, true, false, List, [], ◌∷◌, ◌++◌, length, map, get_or, refl, sym, ap, ap₂, ◌∙◌, subst, arith, Option, Some, None, if◌then◌else◌}
use Rattle.std.specs.Prelude.{slice_get, is_some, option_map, nat_lt, IsTrue, ◌&&◌, ◌==◌}
use Rattle.std.specs.List.{sum_by}
use Rattle.std.proofs.lemmas.Bool.Decides.{nat_tests}
use Rattle.std.proofs.lemmas.List.Sums.{sum_by-cons}
use Rattle.std.proofs.lemmas.Option.{slice_get_within, get_or_from_slice_get}
use Rattle.dllp_core.specs.declared.packet.Class.{Class}
use Rattle.dllp_core.specs.declared.packet.Class.TheVariants.{Posted, NonPosted, Completion}
use Rattle.tlp_core.specs.declared.packet.Kind.{Kind}
use Rattle.tlp_core.specs.declared.packet.Kind.TheVariants as kinds
use Rattle.tlp_core.specs.declared.packet.Body.{Body}
use Rattle.tlp_core.specs.Operation.{op_at, op_of}
use Rattle.requester_core.specs.RequesterView.{RequesterView}
use Rattle.requester_core.specs.declared.requester.OpenRequest.{OpenRequest}
use Rattle.history_words.specs.Trace.{is_request}
use Rattle.flow_control.specs.declared.limits.LaneCredits.{LaneCredits}
use Rattle.flow_control.specs.declared.needs.Need.{Need}
use Rattle.flow_control.specs.Account.{demand, Event, new_direction, first_numbers, after_events, numbers_in, IsRight as IsBalanced}
use Rattle.flow_control.specs.Credits.{amount, allowance, grant, first_of, gate_covers, pick, same}
use Rattle.flow_control.specs.Limits.{IsInLimits}
use Rattle.flow_control.specs.Needs.{class_of, need_at, need_of, units_of}
use Rattle.flow_control.specs.Queue.{Item}
use Rattle.lane_core.specs.Steps.{LaneEndsView}
use Rattle.lane_core.specs.Calls.{IsRightWith, content, on_the_way}
use Rattle.lane_core.specs.Credit.{needs_of, numbers_of}
use Rattle.fabric_steps.specs.Fabric.{Fabric, whole_of, items}
use Rattle.fabric_steps.specs.Lists.{Each, count, one_if}
use Rattle.fabric_steps.specs.ListFacts.{get_before}
use Rattle.fabric_steps.specs.Packets.{marked_packet}
use Rattle.fabric_steps.specs.Routed.{FitsStatus, HasPort}
use Rattle.fabric_steps.specs.Sound.{SoundAt, IsReplyFor, IsCompletionFor, is_answer, answers, served, times}
use Rattle.fabric_steps.specs.Whole.{Entry, MarkedPacket, View, view, path, open_number, unused}
use Rattle.fabric_core.specs.Kept.{IsSoundFabric}
use Rattle.fabric_core.specs.Quiet.{HaveTags}
use Rattle.fabric_settle.specs.Hops.{hops_of, hops_in, hops_left}

-- the laws of the credits
abbrev pub Balanced : Type 0
Balanced = (credits : LaneCredits) (e : LaneEndsView) (r : IsRightWith credits e) (c : Class) (p : _) → 0 < first_of c p credits →
    IsBalanced p (first_of c p credits) (allowance c p e.sender.gate) (grant c p e.receiver.ledger) (numbers_of credits r.calls c p) (demand c p (needs_of e.receiver.queue)) (demand c p (needs_of (on_the_way e)))

abbrev pub Covered : Type 0
Covered = (credits : LaneCredits) (events : List Event) (need : Need) → IsInLimits credits → need.header ≤ 127 → need.units ≤ 2047 →
    IsTrue (gate_covers (after_events (new_direction credits) events).gate need) ↔
    ((p : _) → 0 < first_of need.class p credits → (numbers_in (new_direction credits) (first_numbers credits) events need.class p).used + pick p need.header need.units ≤ (numbers_in (new_direction credits) (first_numbers credits) events need.class p).known)

-- ---- packets of a class

-- 1 for a packet of the class, each of which takes one header credit, and its data credits
abbrev one_of : Class → Item → ℕ
one_of c x = if same c (need_of x.0).class then (need_of x.0).header else 0

abbrev units_in : Class → Item → ℕ
units_in c x = if same c (need_of x.0).class then (need_of x.0).units else 0

nothing_is : (p : _) → 0 ≡ pick p 0 0
nothing_is p = grind arith

sum_is : (p : _) (a b c d : ℕ) → pick p a b + pick p c d ≡ pick p (a + c) (b + d)
sum_is p a b c d = grind arith

amount_is : (c : Class) (p : _) (x : Item) → amount c p (need_of x.0) ≡ pick p (one_of c x) (units_in c x)
amount_is c p x = by_class (same c (need_of x.0).class)
  where
    by_class : (b : Bool) → (if b then pick p (need_of x.0).header (need_of x.0).units else 0) ≡ pick p (if b then (need_of x.0).header else 0) (if b then (need_of x.0).units else 0)
    by_class true = refl
    by_class false = nothing_is p

of_needs : (c : Class) (p : _) (xs : List Item) → demand c p (needs_of xs) ≡ pick p (sum_by (one_of c) xs) (sum_by (units_in c) xs)
of_needs c p [] = nothing_is p
of_needs c p (x ∷ xs) =
    sum_by-cons (amount c p) (need_of x.0) (needs_of xs)
    ∙ ap₂ (λ (m n : ℕ). m + n) (amount_is c p x) (of_needs c p xs)
    ∙ sum_is p (one_of c x) (units_in c x) (sum_by (one_of c) xs) (sum_by (units_in c) xs)
    ∙ ap₂ (λ (m n : ℕ). pick p m n) (sym (sum_by-cons (one_of c) x xs)) (sym (sum_by-cons (units_in c) x xs))

of_both : (g : Item → ℕ) (xs ys : List Item) → sum_by g (xs ++ ys) ≡ sum_by g xs + sum_by g ys
of_both g [] ys = none_and (sum_by g ys)
  where
    none_and : (n : ℕ) → n ≡ 0 + n
    none_and n = omega arith
of_both g (x ∷ xs) ys =
    one (g x) (sum_by g (x ∷ xs ++ ys)) (sum_by g (xs ++ ys)) (sum_by g (x ∷ xs)) (sum_by g xs) (sum_by g ys) (sum_by-cons g x (xs ++ ys)) (sum_by-cons g x xs) (of_both g xs ys)
  where
    one : (h a b c d e : ℕ) → a ≡ h + b → c ≡ h + d → b ≡ d + e → a ≡ c + e
    one h a b c d e p q r = omega arith

-- what a lane holds takes no more of a counter than its first value
content_fits : Balanced → (credits : LaneCredits) (e : LaneEndsView) → IsRightWith credits e → (c : Class) (p : _) → 0 < first_of c p credits
    → pick p (sum_by (one_of c) (content e)) (sum_by (units_in c) (content e)) ≤ first_of c p credits
content_fits law credits e r c p some =
    let b = law credits e r c p some in
    let n = numbers_of credits r.calls c p in
    let queue = e.receiver.queue in
    let way = on_the_way e in
    let all : pick p (sum_by (one_of c) (content e)) (sum_by (units_in c) (content e)) ≡ demand c p (needs_of queue) + demand c p (needs_of way) =
    ap₂ (λ (m n : ℕ). pick p m n) (of_both (one_of c) queue way) (of_both (units_in c) queue way)
    ∙ sym (sum_is p (sum_by (one_of c) queue) (sum_by (units_in c) queue) (sum_by (one_of c) way) (sum_by (units_in c) way))
    ∙ sym (ap₂ (λ (m n : ℕ). m + n) (of_needs c p queue) (of_needs c p way)) in
    counted (pick p (sum_by (one_of c) (content e)) (sum_by (units_in c) (content e))) (demand c p (needs_of queue)) (demand c p (needs_of way)) n.given n.known n.used (first_of c p credits)
    all b.balance b.used_known b.known_given
  where
    counted : (all d e given known used first : ℕ) → all ≡ d + e → given + (d + e) ≡ used + first → used ≤ known → known ≤ given → all ≤ first
    counted all d e given known used first p s t u = omega arith

-- ---- the header part
-- Only `flow_control` can name the parts of a credit. If the headers did not fit, then two would fit where there is one.

abbrev least : LaneCredits
least = record { ph = 1; pd = 8; nph = 1; npd = 2; cplh = 1; cpld = 8 }

abbrev two : Need
two = record { class = Posted; header = 2; units = 0 }

in_limits : IsInLimits least
in_limits = record {
  ph = inr (omega arith, omega arith);
  pd = inr (omega arith, omega arith);
  nph = inr (omega arith, omega arith);
  npd = inr (omega arith, omega arith);
  cplh = inr (omega arith, omega arith);
  cpld = inr (omega arith, omega arith);
}

no_two : Covered → ((p : _) → pick p 2 0 ≤ pick p 1 8) → ⊥
no_two room h =
    let covered : gate_covers (after_events (new_direction least) []).gate two ≡ true = (room least [] two in_limits (omega arith) (omega arith)).1 (λ p some. none_used (pick p 2 0) (pick p 1 8) (h p)) in
    cc
  where
    none_used : (a b : ℕ) → a ≤ b → 0 + a ≤ b
    none_used a b q = omega arith

two_by : (p : _) (n u a b : ℕ) → a < n → (0 < pick p a b → pick p n u ≤ pick p a b) → 0 < a → 0 < b → pick p 2 0 ≤ pick p 1 8
two_by p n u a b more fits some_a some_b = grind arith

-- where each part fits, the headers do
headers_fit : Covered → (n u a b : ℕ) → 0 < a → 0 < b → ((p : _) → 0 < pick p a b → pick p n u ≤ pick p a b) → n ≤ a
headers_fit room n u a b some_a some_b fits = by_test (nat_lt a n) refl
  where
    by_test : (t : Bool) → nat_lt a n ≡ t → n ≤ a
    by_test true h = let more : a < n = grind (arith, nat_tests) in absurd (no_two room (λ p. two_by p n u a b more (fits p) some_a some_b))
    by_test false h = grind (arith, nat_tests)

-- ---- requests and completions

abbrev count_at : Class → Need → ℕ
count_at c need = if same c need.class then need.header else 0

up_by : (k : Kind) (b : Body) (dw units : ℕ) (bytes : List ℕ) → is_some (op_at k b dw bytes) ≡ true
    → (if same (class_of k) Posted then 2 else 4) ≡ 2 * count_at Posted (need_at k units) + 4 * count_at NonPosted (need_at k units)
up_by kinds.MemoryRead b dw units bytes h = refl
up_by kinds.MemoryWrite b dw units bytes h = refl
up_by kinds.FetchAdd b dw units bytes h = refl
up_by kinds.Swap b dw units bytes h = refl
up_by kinds.Cas b dw units bytes h = refl
up_by kinds.Completion b dw units bytes h = absurd cc
up_by kinds.CompletionData b dw units bytes h = absurd cc

in_by : (k : Kind) (b : Body) (dw units : ℕ) (bytes : List ℕ) → is_some (op_at k b dw bytes) ≡ true
    → (if same (class_of k) Posted then 1 else 3) ≡ 1 * count_at Posted (need_at k units) + 3 * count_at NonPosted (need_at k units)
in_by kinds.MemoryRead b dw units bytes h = refl
in_by kinds.MemoryWrite b dw units bytes h = refl
in_by kinds.FetchAdd b dw units bytes h = refl
in_by kinds.Swap b dw units bytes h = refl
in_by kinds.Cas b dw units bytes h = refl
in_by kinds.Completion b dw units bytes h = absurd cc
in_by kinds.CompletionData b dw units bytes h = absurd cc

out_by : (k : Kind) (b : Body) (units : ℕ) → FitsStatus k b → (if same (class_of k) Posted then 2 else 2) ≡ 2 * count_at Completion (need_at k units)
out_by kinds.MemoryRead b units h = absurd h
out_by kinds.MemoryWrite b units h = absurd h
out_by kinds.FetchAdd b units h = absurd h
out_by kinds.Swap b units h = absurd h
out_by kinds.Cas b units h = absurd h
out_by kinds.Completion b units h = refl
out_by kinds.CompletionData b units h = refl

abbrev Requests : ℕ → List Item → Type 0
Requests n xs = Each (λ x. HasPort n x.0 × (is_some (op_of x.0) ≡ true)) xs

up_sum : (n : ℕ) (xs : List Item) → Requests n xs → sum_by (hops_of 2 4) xs ≡ 2 * sum_by (one_of Posted) xs + 4 * sum_by (one_of NonPosted) xs
up_sum n [] h = refl
up_sum n (x ∷ xs) h =
    more (hops_of 2 4 x) (one_of Posted x) (one_of NonPosted x) (sum_by (hops_of 2 4) (x ∷ xs)) (sum_by (hops_of 2 4) xs) (sum_by (one_of Posted) (x ∷ xs)) (sum_by (one_of Posted) xs) (sum_by (one_of NonPosted) (x ∷ xs)) (sum_by (one_of NonPosted) xs)
    (up_by x.0.kind x.0.body x.0.length (units_of (length x.0.payload)) x.0.payload h.0.1) (sum_by-cons (hops_of 2 4) x xs) (sum_by-cons (one_of Posted) x xs) (sum_by-cons (one_of NonPosted) x xs) (up_sum n xs h.1)
  where
    more : (g p q a b c d e f : ℕ) → g ≡ 2 * p + 4 * q → a ≡ g + b → c ≡ p + d → e ≡ q + f → b ≡ 2 * d + 4 * f → a ≡ 2 * c + 4 * e
    more g p q a b c d e f i j k l m = omega arith

in_sum : (n : ℕ) (xs : List Item) → Requests n xs → sum_by (hops_of 1 3) xs ≡ sum_by (one_of Posted) xs + 3 * sum_by (one_of NonPosted) xs
in_sum n [] h = refl
in_sum n (x ∷ xs) h =
    more (hops_of 1 3 x) (one_of Posted x) (one_of NonPosted x) (sum_by (hops_of 1 3) (x ∷ xs)) (sum_by (hops_of 1 3) xs) (sum_by (one_of Posted) (x ∷ xs)) (sum_by (one_of Posted) xs) (sum_by (one_of NonPosted) (x ∷ xs)) (sum_by (one_of NonPosted) xs)
    (in_by x.0.kind x.0.body x.0.length (units_of (length x.0.payload)) x.0.payload h.0.1) (sum_by-cons (hops_of 1 3) x xs) (sum_by-cons (one_of Posted) x xs) (sum_by-cons (one_of NonPosted) x xs) (in_sum n xs h.1)
  where
    more : (g p q a b c d e f : ℕ) → g ≡ 1 * p + 3 * q → a ≡ g + b → c ≡ p + d → e ≡ q + f → b ≡ d + 3 * f → a ≡ c + 3 * e
    more g p q a b c d e f i j k l m = omega arith

out_sum : (n : ℕ) (xs : List Item) → Each (λ x. HasPort n x.0 × FitsStatus x.0.kind x.0.body) xs → sum_by (hops_of 2 2) xs ≡ 2 * sum_by (one_of Completion) xs
out_sum n [] h = refl
out_sum n (x ∷ xs) h =
    more (hops_of 2 2 x) (one_of Completion x) (sum_by (hops_of 2 2) (x ∷ xs)) (sum_by (hops_of 2 2) xs) (sum_by (one_of Completion) (x ∷ xs)) (sum_by (one_of Completion) xs)
    (out_by x.0.kind x.0.body (units_of (length x.0.payload)) h.0.1) (sum_by-cons (hops_of 2 2) x xs) (sum_by-cons (one_of Completion) x xs) (out_sum n xs h.1)
  where
    more : (g p a b c d : ℕ) → g ≡ 2 * p → a ≡ g + b → c ≡ p + d → b ≡ 2 * d → a ≡ 2 * c
    more g p a b c d i j k l = omega arith

-- a lane holds no more packets of a class than its header credits
abbrev Counts : Class → LaneEndsView → ℕ
Counts c e = sum_by (one_of c) (content e)

posted_fit : Balanced → Covered → (credits : LaneCredits) (e : LaneEndsView) → IsRightWith credits e → 0 < credits.ph → 0 < credits.pd → Counts Posted e ≤ credits.ph
posted_fit law room credits e r h d = headers_fit room (Counts Posted e) (sum_by (units_in Posted) (content e)) credits.ph credits.pd h d (λ p some. content_fits law credits e r Posted p some)

non_posted_fit : Balanced → Covered → (credits : LaneCredits) (e : LaneEndsView) → IsRightWith credits e → 0 < credits.nph → 0 < credits.npd → Counts NonPosted e ≤ credits.nph
non_posted_fit law room credits e r h d = headers_fit room (Counts NonPosted e) (sum_by (units_in NonPosted) (content e)) credits.nph credits.npd h d (λ p some. content_fits law credits e r NonPosted p some)

completions_fit : Balanced → Covered → (credits : LaneCredits) (e : LaneEndsView) → IsRightWith credits e → 0 < credits.cplh → 0 < credits.cpld → Counts Completion e ≤ credits.cplh
completions_fit law room credits e r h d = headers_fit room (Counts Completion e) (sum_by (units_in Completion) (content e)) credits.cplh credits.cpld h d (λ p some. content_fits law credits e r Completion p some)

above : (low n : ℕ) → 0 < low → low ≤ n → 0 < n
above low n p q = omega arith

-- ---- the completions for one requester

get_within : {X : Type 0} (xs : List (Option X)) (t : ℕ) (x : X) → get_or xs t None ≡ Some x → t < length xs
get_within [] t x h = absurd cc
get_within (y ∷ xs) zero x h = omega arith
get_within (y ∷ xs) (suc t) x h = let less : t < length xs = get_within xs t x h in omega arith

open_within : (q : RequesterView) (t k : ℕ) → open_number q t ≡ Some k → t < length q.open_tags
open_within q t k h = by_entry (get_or q.open_tags t None) refl h
  where
    by_entry : (o : Option OpenRequest) → get_or q.open_tags t None ≡ o → option_map (λ (r : OpenRequest). r.number) o ≡ Some k → t < length q.open_tags
    by_entry (Some r) e g = get_within q.open_tags t r e
    by_entry None e g = absurd cc

-- the answers to all tags below n
total : ℕ → ℕ → List MarkedPacket → ℕ
total i zero cs = 0
total i (suc n) cs = total i n cs + answers i n cs

none_at_all : (i n : ℕ) → total i n [] ≡ 0
unfolding count total
none_at_all i zero = refl
none_at_all i (suc n) = ap (λ m. m + 0) (none_at_all i n)

abbrev one_at : ℕ → ℕ → MarkedPacket → ℕ
one_at i t c = one_if (is_answer i t c)

hits : ℕ → ℕ → MarkedPacket → ℕ
hits i zero c = 0
hits i (suc n) c = hits i n c + one_at i n c

one_and : (i n : ℕ) (c : MarkedPacket) (cs : List MarkedPacket) → total i n (c ∷ cs) ≡ hits i n c + total i n cs
unfolding count hits total
one_and i zero c cs = refl
one_and i (suc n) c cs = sums (total i n (c ∷ cs)) (hits i n c) (total i n cs) (one_at i n c) (answers i n cs) (one_and i n c cs)
  where
    sums : (a b c d e : ℕ) → a ≡ b + c → a + (d + e) ≡ (b + d) + (c + e)
    sums a b c d e h = omega arith

is_mine : (i n : ℕ) (c : MarkedPacket) → c.requester ≡ i → (n == c.tag) ≡ true → one_at i n c ≡ 1
is_mine i n c r e =
    let mine : (i == c.requester) ≡ true = grind (arith, nat_tests) in
    ap (λ (x : Bool). one_if (x && (n == c.tag))) mine ∙ ap one_if e

less_than : (n t : ℕ) → t < suc n → (n == t) ≡ false → t < n
less_than n t h e = grind (arith, nat_tests)

some_last : (a b : ℕ) → b ≡ 1 → 0 < a + b
some_last a b p = omega arith

some_before : (a b : ℕ) → 0 < a → 0 < a + b
some_before a b p = omega arith

hit : (i n : ℕ) (c : MarkedPacket) → c.requester ≡ i → c.tag < n → 0 < hits i n c
unfolding hits
hit i zero c r h = absurd (omega arith)
hit i (suc n) c r h = by_test (n == c.tag) refl (λ less. hit i n c r less)
  where
    by_test : (b : Bool) → (n == c.tag) ≡ b → (c.tag < n → 0 < hits i n c) → 0 < hits i n c + one_at i n c
    by_test true e later = some_last (hits i n c) (one_at i n c) (is_mine i n c r e)
    by_test false e later = some_before (hits i n c) (one_at i n c) (later (less_than n c.tag h e))

abbrev IsBelow : ℕ → ℕ → MarkedPacket → Type 0
IsBelow i n c = (c.requester ≡ i) × (c.tag < n)

all_hit : (i n : ℕ) (cs : List MarkedPacket) → Each (IsBelow i n) cs → length cs ≤ total i n cs
all_hit i n [] h = omega arith
all_hit i n (c ∷ cs) h = sums (length cs) (hits i n c) (total i n cs) (total i n (c ∷ cs)) (one_and i n c cs) (hit i n c h.0.0 h.0.1) (all_hit i n cs h.1)
  where
    sums : (a b c d : ℕ) → d ≡ b + c → 0 < b → a ≤ c → suc a ≤ d
    sums a b c d p q r = omega arith

few_in_all : (i n : ℕ) (cs : List MarkedPacket) → ((t : ℕ) → answers i t cs ≤ 1) → total i n cs ≤ n
unfolding total
few_in_all i zero cs h = omega arith
few_in_all i (suc n) cs h = sums (total i n cs) (answers i n cs) n (few_in_all i n cs h) (h n)
  where
    sums : (a b n : ℕ) → a ≤ n → b ≤ 1 → a + b ≤ suc n
    sums a b n p q = omega arith

-- ---- one completion a tag

count_more : {X : Type 0} (p : X → Bool) (xs ys : List X) → count p xs ≤ count p (xs ++ ys)
unfolding count
count_more p [] ys = omega arith
count_more p (x ∷ xs) ys = sums (one_if (p x)) (count p xs) (count p (xs ++ ys)) (count_more p xs ys)
  where
    sums : (a b c : ℕ) → b ≤ c → a + b ≤ a + c
    sums a b c h = omega arith

at_most_one : (b : Bool) → one_if b ≤ 1
at_most_one true = omega arith
at_most_one false = omega arith

served_once : (i : ℕ) (v : View) → SoundAt i v → (o : Option ℕ) → served i o v.history ≤ 1
served_once i v s None = omega arith
served_once i v s (Some k) =
    once (times i k v.history) (times i k (path v)) (one_if _) (count_more (is_request i k) v.history _) (s.whole k) (at_most_one _)
  where
    once : (a b c : ℕ) → a ≤ b → b ≡ c → c ≤ 1 → a ≤ 1
    once a b c p q r = omega arith

answered_once : (i : ℕ) (v : View) → SoundAt i v → (t : ℕ) → answers i t v.down ≤ 1
answered_once i v s t = once (answers i t v.outward) (answers i t v.down) (served i (open_number v.requester t) v.history) (s.under_way t) (served_once i v s (open_number v.requester t))
  where
    once : (a b c : ℕ) → a + b ≡ c → c ≤ 1 → b ≤ 1
    once a b c p q = omega arith

later_part : {X : Type 0} (P : X → Type 0) (xs ys : List X) → Each P (xs ++ ys) → Each P ys
later_part P [] ys h = h
later_part P (x ∷ xs) ys h = later_part P xs ys h.1

tags_below : (i : ℕ) (v : View) (cs : List MarkedPacket) → Each (IsCompletionFor i) cs → Each (IsReplyFor v.extent i v.requester v.history) cs → Each (IsBelow i (length v.requester.open_tags)) cs
tags_below i v [] own replies = tt
tags_below i v (c ∷ cs) own replies = (
  (own.0.0, let r = replies.0 own.0.0 in open_within v.requester c.tag r.number r.open_tag),
  tags_below i v cs own.1 replies.1,
)

few_down : (i : ℕ) (v : View) → SoundAt i v → length v.down ≤ length v.requester.open_tags
few_down i v s =
    let tags = length v.requester.open_tags in
    between (length v.down) (total i tags v.down) tags
    (all_hit i tags v.down (tags_below i v v.down s.own_completions (later_part (IsReplyFor v.extent i v.requester v.history) v.outward v.down s.replies)))
    (few_in_all i tags v.down (answered_once i v s))
  where
    between : (a b c : ℕ) → a ≤ b → b ≤ c → a ≤ c
    between a b c p q = omega arith

-- ---- the lanes

length_items : (xs : List Item) → length (map (λ (x : Item). marked_packet x.0 x.1) xs) ≡ length xs
length_items [] = refl
length_items (x ∷ xs) = ap suc (length_items xs)

one_each : (xs : List Item) → sum_by (hops_of 1 1) xs ≡ length xs
one_each [] = refl
one_each (x ∷ xs) = more (hops_of 1 1 x) (sum_by (hops_of 1 1) (x ∷ xs)) (sum_by (hops_of 1 1) xs) (length xs) (either (same (class_of x.0.kind) Posted)) (sum_by-cons (hops_of 1 1) x xs) (one_each xs)
  where
    either : (b : Bool) → ◌≡◌ {A = ℕ} (if b then 1 else 1) 1
    either true = refl
    either false = refl

    more : (g a b n : ℕ) → g ≡ 1 → a ≡ g + b → b ≡ n → a ≡ suc n
    more g a b n p q r = omega arith

there_is : {X : Type 0} (xs : List X) (i : ℕ) → i < length xs → (x : X) × (slice_get xs i ≡ Some x)
there_is [] i h = absurd (omega arith)
there_is (x ∷ xs) zero h = (x, refl)
there_is (x ∷ xs) (suc i) h = there_is xs i (omega arith)

get_map : {X Y : Type 0} (g : X → Y) (d : Y) (xs : List X) (i : ℕ) (x : X) → slice_get xs i ≡ Some x → get_or (map g xs) i d ≡ g x
get_map g d [] i x h = absurd cc
get_map g d (y ∷ xs) zero x h = let is : y ≡ x = cc in ap g is
get_map g d (y ∷ xs) (suc i) x h = get_map g d xs i x h

down_each : (f : Fabric) → IsSoundFabric f → HaveTags f → (i : ℕ) (e : LaneEndsView) → slice_get f.down i ≡ Some e → hops_in 1 1 e ≤ 256
down_each f s tags i e there =
    let inside : i < length f.down = slice_get_within f.down i e there in
    let same_count : length f.down ≡ length f.requesters = s.lanes.down in
    let q = there_is f.requesters i (omega arith) in
    let v = view (whole_of f) (suc i) in
    let is_down : v.down ≡ items e = get_map items [] f.down i e there in
    let is_requester : v.requester ≡ q.0 = get_or_from_slice_get f.requesters i q.0 unused q.1 in
    bounded (hops_in 1 1 e) (length (content e)) (length (items e)) (length v.down) (length v.requester.open_tags) (length q.0.open_tags)
    (one_each (content e)) (length_items (content e)) (ap (λ (xs : List MarkedPacket). length xs) is_down) (few_down (suc i) v (s.sound (suc i))) (ap (λ (x : RequesterView). length x.open_tags) is_requester) (tags i q.0 q.1)
  where
    bounded : (a b c d e f : ℕ) → a ≡ b → c ≡ b → d ≡ c → d ≤ e → e ≡ f → f ≡ 256 → a ≤ 256
    bounded a b c d e f p q r s t u = omega arith

up_each : Balanced → Covered → (f : Fabric) → IsSoundFabric f → (i : ℕ) (e : LaneEndsView) → slice_get f.up i ≡ Some e → hops_in 2 4 e ≤ 762
up_each law room f s i e there =
    let c = s.config.credits in
    bounded (hops_in 2 4 e) (sum_by (one_of Posted) (content e)) (sum_by (one_of NonPosted) (content e)) f.credits.ph f.credits.nph (up_sum (length f.requesters) (content e) (s.routed.up i e there))
    (posted_fit law room f.credits e (s.up i e there) c.ph.0 (above 8 f.credits.pd (omega arith) c.pd.0)) (non_posted_fit law room f.credits e (s.up i e there) c.nph.0 (above 2 f.credits.npd (omega arith) c.npd.0)) c.ph.1 c.nph.1
  where
    bounded : (a p n h k : ℕ) → a ≡ 2 * p + 4 * n → p ≤ h → n ≤ k → h ≤ 127 → k ≤ 127 → a ≤ 762
    bounded a p n h k q r s t u = omega arith

in_few : Balanced → Covered → (f : Fabric) → IsSoundFabric f → hops_in 1 3 f.inward ≤ 508
in_few law room f s =
    let c = s.config.credits in
    bounded (hops_in 1 3 f.inward) (sum_by (one_of Posted) (content f.inward)) (sum_by (one_of NonPosted) (content f.inward)) f.credits.ph f.credits.nph (in_sum (length f.requesters) (content f.inward) s.routed.inward)
    (posted_fit law room f.credits f.inward s.inward c.ph.0 (above 8 f.credits.pd (omega arith) c.pd.0)) (non_posted_fit law room f.credits f.inward s.inward c.nph.0 (above 2 f.credits.npd (omega arith) c.npd.0)) c.ph.1 c.nph.1
  where
    bounded : (a p n h k : ℕ) → a ≡ p + 3 * n → p ≤ h → n ≤ k → h ≤ 127 → k ≤ 127 → a ≤ 508
    bounded a p n h k q r s t u = omega arith

out_few : Balanced → Covered → (f : Fabric) → IsSoundFabric f → hops_in 2 2 f.outward ≤ 254
out_few law room f s =
    let c = s.config.credits in
    bounded (hops_in 2 2 f.outward) (sum_by (one_of Completion) (content f.outward)) f.credits.cplh (out_sum (length f.requesters) (content f.outward) s.routed.outward)
    (completions_fit law room f.credits f.outward s.outward c.cplh.0 (above 8 f.credits.cpld (omega arith) c.cpld.0)) c.cplh.1
  where
    bounded : (a p h : ℕ) → a ≡ 2 * p → p ≤ h → h ≤ 127 → a ≤ 254
    bounded a p h q r s = omega arith

up_all : (es : List LaneEndsView) → ((i : ℕ) (e : LaneEndsView) → slice_get es i ≡ Some e → hops_in 2 4 e ≤ 762) → sum_by (hops_in 2 4) es ≤ 762 * length es
up_all [] h = omega arith
up_all (e ∷ es) h = more (hops_in 2 4 e) (sum_by (hops_in 2 4) (e ∷ es)) (sum_by (hops_in 2 4) es) (length es) (sum_by-cons (hops_in 2 4) e es) (h zero e refl) (up_all es (λ i x k. h (suc i) x k))
  where
    more : (g a b n : ℕ) → a ≡ g + b → g ≤ 762 → b ≤ 762 * n → a ≤ 762 * suc n
    more g a b n p q r = omega arith

down_all : (es : List LaneEndsView) → ((i : ℕ) (e : LaneEndsView) → slice_get es i ≡ Some e → hops_in 1 1 e ≤ 256) → sum_by (hops_in 1 1) es ≤ 256 * length es
down_all [] h = omega arith
down_all (e ∷ es) h = more (hops_in 1 1 e) (sum_by (hops_in 1 1) (e ∷ es)) (sum_by (hops_in 1 1) es) (length es) (sum_by-cons (hops_in 1 1) e es) (h zero e refl) (down_all es (λ i x k. h (suc i) x k))
  where
    more : (g a b n : ℕ) → a ≡ g + b → g ≤ 256 → b ≤ 256 * n → a ≤ 256 * suc n
    more g a b n p q r = omega arith

pub few : Balanced → Covered → (f : Fabric) → IsSoundFabric f → HaveTags f → hops_left f ≤ 7888
few law room f s tags =
    sums (sum_by (hops_in 2 4) f.up) (hops_in 1 3 f.inward) (hops_in 2 2 f.outward) (sum_by (hops_in 1 1) f.down) (length f.up) (length f.down) (length f.requesters)
    (up_all f.up (up_each law room f s)) (in_few law room f s) (out_few law room f s) (down_all f.down (down_each f s tags)) s.lanes.up s.lanes.down s.lanes.few
  where
    sums : (a b c d u v n : ℕ) → a ≤ 762 * u → b ≤ 508 → c ≤ 254 → d ≤ 256 * v → u ≡ n → v ≡ n → n ≤ 7 → a + (b + (c + d)) ≤ 7888
    sums a b c d u v n p q r s t w x = omega arith
