-- Requests that the BAR claims, their first blocks, and what is left of them.
use Rattle.std.proofs.Common.{◌≡◌, ◌≢◌, ◌∙◌, ℕ, ◌+◌, ◌-◌, ◌*◌, ◌^◌, ◌≤◌, Bool, true, false, List, Option, Some, None, cond, refl, sym, ap, subst, arith}
use Rattle.std.specs.Prelude.{◌==◌, ◌&&◌, nat_le, is_some, option_map, if◌then◌else◌}
use Rattle.std.proofs.lemmas.Bool.Decides.{nat_tests}
use Rattle.std.proofs.lemmas.Option.{same_Some}
use Rattle.tlp_core.specs.Ops.{Op}
use Rattle.tlp_core.specs.declared.operation.OpOf.TheVariants as ops
use Rattle.tlp_core.specs.declared.packet.Kind.{Kind}
use Rattle.tlp_core.specs.declared.packet.Kind.TheVariants as kinds
use Rattle.tlp_core.specs.declared.packet.Body.{Body}
use Rattle.tlp_core.specs.declared.packet.Body.TheVariants as bodies
use Rattle.tlp_core.specs.declared.packet.Status.TheVariants as statuses
use Rattle.tlp_core.specs.TlpView.{TlpView}
use Rattle.tlp_core.specs.Operation.{op_at, op_of, address_of, count_of, is_posted}
use Rattle.seq_memory.specs.Entries.{Reply}
use Rattle.seq_memory.specs.Step.{answer, read_back, data_of}
use Rattle.op_pieces.specs.Pieces.{dw_to, front}
use Rattle.completer_core.specs.Completion.{completion, completion_of, unless_posted}
use Rattle.config_core.specs.SetupView.{SetupView}
use Rattle.config_core.specs.RegistersView.{RegistersView}
use Rattle.config_core.specs.Registers.{base_of, is_on}
use Rattle.endpoint_core.specs.EndpointView.{DeviceView}
use Rattle.endpoint_core.specs.Steps.{base_of_op, dw_before_end, dw_in_front, first_block, body_behind, behind, completion_at, from}
use Rattle.endpoint_laws.proofs.Registers.{KeepsPlace}
use Rattle.endpoint_laws.proofs.Served.{IsPlace}

-- ---- what the BAR claims

pub record IsClaimed (d : DeviceView) (base : ℕ) (op : Op) : Type 0 where
  pub on : is_on d.registers ≡ true
  pub is : base_of d.registers ≡ base
  pub place : IsPlace base d.registers.setup.size op
  pub fits : address_of op + count_of op ≤ 2 ^ 64

record All (on low high fits : Bool) (b base : ℕ) : Type 0 where
  is_on : on ≡ true
  is_low : low ≡ true
  is_high : high ≡ true
  is_fit : fits ≡ true
  same : b ≡ base

tests : (on low high fits : Bool) (x b base : ℕ) → (if is_some (if on && (low && high) then Some x else None) && fits then Some b else None) ≡ Some base → All on low high fits b base
tests true true true true x b base e = record { is_on = refl; is_low = refl; is_high = refl; is_fit = refl; same = cc }
tests true true true false x b base e = absurd (cc)
tests true true false fits x b base e = absurd (cc)
tests true false high fits x b base e = absurd (cc)
tests false low high fits x b base e = absurd (cc)

passed : (on low high fits : Bool) (x b : ℕ) → on ≡ true → low ≡ true → high ≡ true → fits ≡ true → (if is_some (if on && (low && high) then Some x else None) && fits then Some b else None) ≡ Some b
passed on low high fits x b p q r s = rw (p, q, r, s) refl

le_is : (a b : ℕ) → nat_le a b ≡ true → a ≤ b
le_is a b h = grind (arith, nat_tests)

is_le : (a b : ℕ) → a ≤ b → nat_le a b ≡ true
is_le a b h = grind (arith, nat_tests)

pub claimed_is : (d : DeviceView) (base : ℕ) (op : Op) → base_of_op d op ≡ Some base → IsClaimed d base op
claimed_is d base op e =
    let r = d.registers in
    let a = address_of op in
    let c = count_of op in
    let t = tests (is_on r) (nat_le (base_of r) a) (nat_le (a + c) (base_of r + r.setup.size)) (nat_le (a + c) (2 ^ 64)) (a - base_of r) (base_of r) base e in
    record {
      on = t.is_on;
      is = t.same;
      place = subst (λ (x : ℕ). IsPlace x r.setup.size op) t.same (record { low = le_is (base_of r) a t.is_low; high = le_is (a + c) (base_of r + r.setup.size) t.is_high });
      fits = le_is (a + c) (2 ^ 64) t.is_fit;
    }

pub is_claimed : (d : DeviceView) (base : ℕ) (op : Op) → IsClaimed d base op → base_of_op d op ≡ Some base
is_claimed d base op c =
    let r = d.registers in
    let at : IsPlace (base_of r) r.setup.size op = subst (λ (x : ℕ). IsPlace x r.setup.size op) (sym c.is) c.place in
    passed (is_on r) (nat_le (base_of r) (address_of op)) (nat_le (address_of op + count_of op) (base_of r + r.setup.size)) (nat_le (address_of op + count_of op) (2 ^ 64)) (address_of op - base_of r) (base_of r)
    c.on (is_le (base_of r) (address_of op) at.low) (is_le (address_of op + count_of op) (base_of r + r.setup.size) at.high) (is_le (address_of op + count_of op) (2 ^ 64) c.fits)
    ∙ ap Some c.is

-- registers that keep the memory's place keep what is claimed
pub claimed_with : (d : DeviceView) (q : RegistersView) (base : ℕ) (op : Op) → KeepsPlace d.registers q → IsClaimed d base op → IsClaimed (record d { registers = q }) base op
claimed_with d q base op k c = record {
  on = k.on ∙ c.on;
  is = k.base ∙ c.is;
  place = subst (λ (s : SetupView). IsPlace base s.size op) (sym k.setup) c.place;
  fits = c.fits;
}

-- ---- the first block

front_address : (n : ℕ) (op : Op) → address_of (front n op) ≡ address_of op
front_address n (ops.Read a dw f l) = refl
front_address n (ops.Write a f l bytes) = refl
front_address n (ops.FetchAdd a w x) = refl
front_address n (ops.Swap a w x) = refl
front_address n (ops.Cas a w x y) = refl

address_by : (b : Bool) (n : ℕ) (op : Op) → address_of (cond b op (front n op)) ≡ address_of op
address_by true n op = refl
address_by false n op = front_address n op

posted_front : (n : ℕ) (op : Op) → is_posted (front n op) ≡ is_posted op
posted_front n (ops.Read a dw f l) = refl
posted_front n (ops.Write a f l bytes) = refl
posted_front n (ops.FetchAdd a w x) = refl
posted_front n (ops.Swap a w x) = refl
posted_front n (ops.Cas a w x y) = refl

posted_by : (b : Bool) (n : ℕ) (op : Op) → is_posted (cond b op (front n op)) ≡ is_posted op
posted_by true n op = refl
posted_by false n op = posted_front n op

pub first_posted : (op : Op) → is_posted (first_block op) ≡ is_posted op
first_posted op = posted_by (dw_in_front op == 0) (dw_in_front op) op

before_few : (b : Bool) (dw m : ℕ) → nat_le dw m ≡ b → cond b 0 m ≤ dw
before_few true dw m e = omega arith
before_few false dw m e = grind (arith, nat_tests)

few_before : (a dw : ℕ) → dw_before_end a dw ≤ dw
few_before a dw = before_few (nat_le dw (dw_to 128 a)) dw (dw_to 128 a) refl

count_by : (b : Bool) (n a dw f l : ℕ) → n ≤ dw → count_of (cond b (ops.Read a dw f l) (front n (ops.Read a dw f l))) ≤ 4 * dw
count_by true n a dw f l h = omega arith
count_by false n a dw f l h = omega (arith, h)

first_count : (op : Op) → count_of (first_block op) ≤ count_of op
first_count (ops.Read a dw f l) = count_by (dw_before_end a dw == 0) (dw_before_end a dw) a dw f l (few_before a dw)
first_count (ops.Write a f l bytes) = omega arith
first_count (ops.FetchAdd a w x) = omega arith
first_count (ops.Swap a w x) = omega arith
first_count (ops.Cas a w x y) = omega arith

pub first_place : (base size : ℕ) (op : Op) → IsPlace base size op → IsPlace base size (first_block op)
first_place base size op p =
    let at : address_of (first_block op) ≡ address_of op = address_by (dw_in_front op == 0) (dw_in_front op) op in
    let n : count_of (first_block op) ≤ count_of op = first_count op in
    let low : base ≤ address_of op = p.low in
    let high : address_of op + count_of op ≤ base + size = p.high in
    record { low = omega arith; high = omega arith }

-- ---- what is left

pub record IsRest (o : Option Op) (op : Op) : Type 0 where
  pub rest : Op
  pub is : o ≡ Some rest
  pub from : address_of op ≤ address_of rest
  pub to : address_of rest + count_of rest ≡ address_of op + count_of op

rest_by : (k : Kind) (b : Body) (dw : ℕ) (bytes : List ℕ) (op : Op) → op_at k b dw bytes ≡ Some op → dw_in_front op ≢ 0 → IsRest (op_at k (body_behind (dw_in_front op) dw b) (dw - dw_in_front op) bytes) op
rest_by kinds.MemoryRead (bodies.Request a f l) dw bytes op e some =
    let same : ops.Read a dw f l ≡ op = cc in
    let few : dw_before_end a dw ≤ dw = few_before a dw in
    subst (λ (x : Op). IsRest (op_at kinds.MemoryRead (body_behind (dw_in_front x) dw (bodies.Request a f l)) (dw - dw_in_front x) bytes) x) same
    (record { rest = _; is = refl; from = omega arith; to = omega (arith, few) })
rest_by kinds.MemoryRead (bodies.Completion c s n lower) dw bytes op e some = absurd (cc)
rest_by kinds.MemoryWrite (bodies.Request a f l) dw bytes op e some = absurd (some (sym (ap dw_in_front (same_Some _ op e))))
rest_by kinds.MemoryWrite (bodies.Completion c s n lower) dw bytes op e some = absurd (cc)
rest_by kinds.FetchAdd (bodies.Request a f l) dw bytes op e some = absurd (some (sym (ap dw_in_front (same_Some _ op e))))
rest_by kinds.FetchAdd (bodies.Completion c s n lower) dw bytes op e some = absurd (cc)
rest_by kinds.Swap (bodies.Request a f l) dw bytes op e some = absurd (some (sym (ap dw_in_front (same_Some _ op e))))
rest_by kinds.Swap (bodies.Completion c s n lower) dw bytes op e some = absurd (cc)
rest_by kinds.Cas (bodies.Request a f l) dw bytes op e some = absurd (some (sym (ap dw_in_front (same_Some _ op e))))
rest_by kinds.Cas (bodies.Completion c s n lower) dw bytes op e some = absurd (cc)
rest_by kinds.Completion b dw bytes op e some = absurd (cc)
rest_by kinds.CompletionData b dw bytes op e some = absurd (cc)

pub rest_of : (t : TlpView) (op : Op) → op_of t ≡ Some op → dw_in_front op ≢ 0 → IsRest (op_of (behind (dw_in_front op) t)) op
rest_of t op e some = rest_by t.kind t.body t.length t.payload op e some

pub rest_claimed : (d : DeviceView) (base : ℕ) (op : Op) (o : Option Op) → IsClaimed d base op → (r : IsRest o op) → IsClaimed d base r.rest
rest_claimed d base op o c r =
    let from : address_of op ≤ address_of r.rest = r.from in
    let to : address_of r.rest + count_of r.rest ≡ address_of op + count_of op = r.to in
    let low : base ≤ address_of op = c.place.low in
    let high : address_of op + count_of op ≤ base + d.registers.setup.size = c.place.high in
    let fits : address_of op + count_of op ≤ 2 ^ 64 = c.fits in
    record { on = c.on; is = c.is; place = record { low = omega arith; high = omega arith }; fits = omega arith }

-- ---- its completion says the reply

pub reads_data : (op : Op) (old : List ℕ) → is_posted op ≡ false → (bytes : List ℕ) × (read_back op old ≡ data_of bytes)
reads_data (ops.Read a dw f l) old not = (_, refl)
reads_data (ops.Write a f l bytes) old not = absurd (cc)
reads_data (ops.FetchAdd a w x) old not = (old, refl)
reads_data (ops.Swap a w x) old not = (old, refl)
reads_data (ops.Cas a w x y) old not = (old, refl)

unless : (k : Kind) (b : Body) (dw : ℕ) (bytes : List ℕ) (op : Op) (c : Option TlpView) → op_at k b dw bytes ≡ Some op → is_posted op ≡ false → unless_posted k c ≡ c
unless kinds.MemoryRead b dw bytes op c e not = refl
unless kinds.MemoryWrite (bodies.Request a f l) dw bytes op c e not =
    let same : ops.Write a f l (record { items = bytes }) ≡ op = cc in
    absurd (let clash : true ≡ false = ap is_posted same ∙ not in cc)
unless kinds.MemoryWrite (bodies.Completion i s n lower) dw bytes op c e not = absurd (cc)
unless kinds.FetchAdd b dw bytes op c e not = refl
unless kinds.Swap b dw bytes op c e not = refl
unless kinds.Cas b dw bytes op c e not = refl
unless kinds.Completion b dw bytes op c e not = refl
unless kinds.CompletionData b dw bytes op c e not = refl

abbrev pub carries : DeviceView → TlpView → List ℕ → TlpView
carries d t bytes = from d.completer (completion t kinds.CompletionData statuses.Success bytes)

pub completes : (d : DeviceView) (t : TlpView) (op : Op) (base : ℕ) (bytes : List ℕ) → op_of t ≡ Some op → is_posted op ≡ false → answer base 128 d.bytes (first_block op) ≡ data_of bytes
    → completion_at d t op (Some base) ≡ Some (carries d t bytes)
completes d t op base bytes e not is =
    ap (λ (r : Reply). option_map (from d.completer) (completion_of t r)) is
    ∙ ap (λ (c : Option TlpView). option_map (from d.completer) c) (unless t.kind t.body t.length t.payload op (Some (completion t kinds.CompletionData statuses.Success bytes)) e not)
