-- What a call does to one counter and the whole numbers behind it.
use Rattle.std.proofs.Common.{◌≡◌, ℕ, ◌+◌, ◌-◌, ◌/◌, ◌%◌, ◌<◌, ◌≤◌, Bool, true, false, List, [], ◌∷◌, ◌++◌, map, refl, sym, ◌∙◌, ap, arith, add_assoc}
use Rattle.std.specs.Prelude.{nat_le, not, ◌==◌, ◌&&◌}
use Rattle.std.proofs.lemmas.Bool.Decides.{nat_tests}
use Rattle.std.proofs.lemmas.List.{map-append}
use Rattle.std.proofs.Math.Nat.{mod-add-mod, add-mod-mod}
use Rattle.flow_control.specs.declared.counter.Part.{Part}
use Rattle.flow_control.specs.declared.counter.Part.TheVariants.{Header, Data}
use Rattle.flow_control.specs.declared.counter.Allowance.{Allowance}
use Rattle.flow_control.specs.declared.counter.Grant.{Grant}
use Rattle.flow_control.specs.Credits.{modulus, most, spent, taken_in, given_back, allocated, overflows, StandsFor}
use Rattle.flow_control.specs.Account.{Account, Rising, IsCounted, uses, receives, gives, tells, loses, learns, IsRight}
use Rattle.flow_control.proofs.Fits.{covered_room, room_covered}

-- numbers that rise

pub lower : (low less high : ℕ) (vs : List ℕ) → less ≤ low → Rising low high vs → Rising less high vs
lower low less high [] h r = omega arith
lower low less high (v ∷ vs) h r = (let first : low ≤ v = r.0 in omega arith, r.1)

pub higher : (low high more : ℕ) (vs : List ℕ) → high ≤ more → Rising low high vs → Rising low more vs
higher low high more [] h r = omega arith
higher low high more (v ∷ vs) h r = (r.0, higher v high more vs h r.1)

pub one_more : (low high : ℕ) (vs : List ℕ) → Rising low high vs → Rising low high (vs ++ high ∷ [])
one_more low high [] r = (r, omega arith)
one_more low high (v ∷ vs) r = (r.0, one_more v high vs r.1)

pub ends : (low high : ℕ) (vs : List ℕ) → Rising low high vs → low ≤ high
ends low high [] r = r
ends low high (v ∷ vs) r =
    let first : low ≤ v = r.0 in
    let rest : v ≤ high = ends v high vs r.1 in
    omega arith

-- what follows of one account

pub is_known : (p : Part) (a : Allowance) (g : Grant) (n : Account) (queue way : ℕ) (ups : List ℕ) → IsCounted p a g n queue way ups → n.known ≤ n.given
is_known p a g n queue way ups k = ends n.known n.given n.sent k.rising

pub stands : (p : Part) (a : Allowance) (g : Grant) (n : Account) (queue way : ℕ) (ups : List ℕ) → g.first ≤ most p → IsCounted p a g n queue way ups → StandsFor p a n.known n.used
stands p a g n queue way ups s k =
    let known : n.known ≤ n.given = is_known p a g n queue way ups k in
    record {
      limit = k.limit;
      consumed = k.consumed;
      used_known = k.used_known;
      unused = omega (arith, k.queued, k.under_way);
    }

not_le : (x y : ℕ) → y < x → nat_le x y ≡ false
not_le x y h = grind (arith, nat_tests)

apart : (p : Part) (given received : ℕ) → received ≤ given → given ≤ received + most p →
    (given % modulus p + modulus p - received % modulus p % modulus p) % modulus p < modulus p / 2
apart Header given received h k = omega arith
apart Data given received h k = omega arith

no_test : (b t : Bool) → t ≡ false → b && t ≡ false
no_test true t e = e
no_test false t e = refl

pub no_overflow : (p : Part) (a : Allowance) (g : Grant) (n : Account) (queue way : ℕ) (ups : List ℕ) → g.first ≤ most p → IsCounted p a g n queue way ups → overflows p g ≡ false
no_overflow p a g n queue way ups s k =
    let known : n.known ≤ n.given = is_known p a g n queue way ups k in
    no_test (not (g.first == 0)) (nat_le (modulus p / 2) ((allocated p g + modulus p - g.received % modulus p) % modulus p))
    (rw (k.allocated, k.received) (not_le (modulus p / 2) _
    (apart p n.given n.received (omega (arith, k.used_known, k.under_way)) (omega (arith, k.queued)))))

pub right : (p : Part) (first : ℕ) (a : Allowance) (g : Grant) (n : Account) (queue way : ℕ) (ups : List ℕ) → 0 < first → a.first ≡ first → g.first ≡ first → first ≤ most p →
    IsCounted p a g n queue way ups → IsRight p first a g n queue way
right p first a g n queue way ups q e f s k =
    let known : n.known ≤ n.given = is_known p a g n queue way ups k in
    let small : g.first ≤ most p = rw f s in
    let standing : 0 < a.first → StandsFor p a n.known n.used = λ h. stands p a g n queue way ups small k in
    record {
      used_known = k.used_known;
      known_given = known;
      balance = omega (arith, k.queued, k.under_way);
      queue_fits = omega (arith, k.queued, k.under_way, k.used_known);
      room = λ units u. (
        λ t. covered_room p a n.known n.used units standing u t (omega arith),
        λ h. room_covered p a n.known n.used units standing u (λ x. h),
      );
      no_overflow = no_overflow p a g n queue way ups small k;
    }

-- a gate whose limit is what the ledger allocated knows all that was given

same_of : (p : Part) (known given : ℕ) → known ≤ given → given ≤ known + most p → known % modulus p ≡ given % modulus p → known ≡ given
same_of Header known given low high e = omega arith
same_of Data known given low high e = omega arith

pub all_known : (p : Part) (first : ℕ) (a : Allowance) (g : Grant) (n : Account) (queue way : ℕ) (ups : List ℕ) → first ≤ most p →
    IsCounted p a g n queue way ups → IsRight p first a g n queue way → a.limit ≡ allocated p g → n.known ≡ n.given
all_known p first a g n queue way ups s k r e =
    same_of p n.known n.given r.known_given (omega (arith, r.balance, r.used_known, s)) (sym k.limit ∙ e ∙ k.allocated)

-- the calls

pub used_more : (p : Part) (a : Allowance) (g : Grant) (n : Account) (queue way units : ℕ) (ups : List ℕ) → n.used + units ≤ n.known → IsCounted p a g n queue way ups →
    IsCounted p (spent p a units) g (uses n units) queue (way + units) ups
used_more p a g n queue way units ups h k =
    record {
      limit = k.limit;
      consumed = rw k.consumed (mod-add-mod n.used (modulus p) units);
      allocated = k.allocated;
      received = k.received;
      carried = k.carried;
      used_known = h;
      rising = k.rising;
      queued = k.queued;
      under_way = omega (arith, k.under_way);
    }

pub received_more : (p : Part) (a : Allowance) (g : Grant) (n : Account) (queue way units : ℕ) (ups : List ℕ) → IsCounted p a g n queue (units + way) ups →
    IsCounted p a (taken_in p g units) (receives n units) (queue + units) way ups
received_more p a g n queue way units ups k =
    record {
      limit = k.limit;
      consumed = k.consumed;
      allocated = k.allocated;
      received = rw k.received (mod-add-mod n.received (modulus p) units);
      carried = k.carried;
      used_known = k.used_known;
      rising = k.rising;
      queued = omega (arith, k.queued);
      under_way = omega (arith, k.under_way);
    }

-- what is allocated grows by what is freed
allocated_more : (m first freed given units : ℕ) → (first + freed) % m ≡ given % m → (first + (freed + units) % m) % m ≡ (given + units) % m
allocated_more m first freed given units e =
    add-mod-mod first (freed + units) m ∙ ap (λ (n : ℕ). n % m) (sym (add_assoc first freed units)) ∙
    sym (mod-add-mod (first + freed) m units) ∙ ap (λ (n : ℕ). (n + units) % m) e ∙ mod-add-mod given m units

pub freed_more : (p : Part) (a : Allowance) (g : Grant) (n : Account) (queue left way units : ℕ) (ups : List ℕ) → left + units ≡ queue → IsCounted p a g n queue way ups →
    IsCounted p a (given_back p g units) (gives n units) left way ups
freed_more p a g n queue left way units ups h k =
    record {
      limit = k.limit;
      consumed = k.consumed;
      allocated = allocated_more (modulus p) g.first g.freed n.given units k.allocated;
      received = k.received;
      carried = k.carried;
      used_known = k.used_known;
      rising = higher n.known n.given (n.given + units) n.sent (omega arith) k.rising;
      queued = omega (arith, k.queued);
      under_way = k.under_way;
    }

pub told_more : (p : Part) (a : Allowance) (g : Grant) (n : Account) (queue way : ℕ) (ups : List ℕ) → IsCounted p a g n queue way ups →
    IsCounted p a g (tells n) queue way (ups ++ allocated p g ∷ [])
told_more p a g n queue way ups k =
    record {
      limit = k.limit;
      consumed = k.consumed;
      allocated = k.allocated;
      received = k.received;
      carried = rw (map-append (λ (v : ℕ). v % modulus p) n.sent (n.given ∷ [])) (cc (k.carried, k.allocated));
      used_known = k.used_known;
      rising = one_more n.known n.given n.sent k.rising;
      queued = k.queued;
      under_way = k.under_way;
    }

-- the oldest update is lost, or reaches the gate

pub lost_one : (p : Part) (a : Allowance) (g : Grant) (n : Account) (sent : List ℕ) (queue way u : ℕ) (ups : List ℕ) → n.sent ≡ sent → IsCounted p a g n queue way (u ∷ ups) →
    IsCounted p a g (loses n sent) queue way ups
lost_one p a g n [] queue way u ups e k = let none : u ∷ ups ≡ [] = rw e at k.carried in cc
lost_one p a g n (v ∷ vs) queue way u ups e k =
    let some : u ∷ ups ≡ (v % modulus p) ∷ map (λ (x : ℕ). x % modulus p) vs = rw e at k.carried in
    let rising : Rising n.known n.given (v ∷ vs) = rw e at k.rising in
    record {
      limit = k.limit;
      consumed = k.consumed;
      allocated = k.allocated;
      received = k.received;
      carried = (cc);
      used_known = k.used_known;
      rising = lower v n.known n.given vs rising.0 rising.1;
      queued = k.queued;
      under_way = k.under_way;
    }

pub known_more : (p : Part) (a : Allowance) (g : Grant) (n : Account) (sent : List ℕ) (queue way u : ℕ) (ups : List ℕ) → n.sent ≡ sent → IsCounted p a g n queue way (u ∷ ups) →
    IsCounted p (record { first = a.first; limit = u; consumed = a.consumed }) g (learns n sent) queue way ups
known_more p a g n [] queue way u ups e k = let none : u ∷ ups ≡ [] = rw e at k.carried in cc
known_more p a g n (v ∷ vs) queue way u ups e k =
    let some : u ∷ ups ≡ (v % modulus p) ∷ map (λ (x : ℕ). x % modulus p) vs = rw e at k.carried in
    let rising : Rising n.known n.given (v ∷ vs) = rw e at k.rising in
    let first : n.known ≤ v = rising.0 in
    record {
      limit = (cc);
      consumed = k.consumed;
      allocated = k.allocated;
      received = k.received;
      carried = (cc);
      used_known = omega (arith, k.used_known);
      rising = rising.1;
      queued = k.queued;
      under_way = k.under_way;
    }
