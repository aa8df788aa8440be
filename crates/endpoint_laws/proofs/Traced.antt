-- What is recorded of a device stays explained, whatever it is asked.
use Rattle.std.proofs.Common.{◌≡◌, ◌≢◌, ◌∙◌, ℕ, ◌+◌, ◌-◌, ◌%◌, Bool, true, false, List, [], ◌∷◌, ◌++◌, length, map, cond, Option, Some, None, refl, sym, ap, subst, arith}
use Rattle.std.specs.Prelude.{◌==◌, not, flat_map, if◌then◌else◌}
use Rattle.std.proofs.lemmas.Bool.Decides.{nat_tests}
use Rattle.std.proofs.lemmas.Grind.{flat_map-append}
use Rattle.std.proofs.lemmas.List.{append-nil, append_cancel_right}
use Rattle.tlp_core.specs.Ops.{Op}
use Rattle.tlp_core.specs.Operation.{op_of, is_posted, op_fault, address_of, count_of}
use Rattle.tlp_core.specs.TlpView.{TlpView}
use Rattle.seq_memory.specs.Entries.{Reply}
use Rattle.seq_memory.specs.Step.{after, answer, bytes_at, read_back, data_of}
use Rattle.config_core.specs.declared.registers.Noted.{Noted}
use Rattle.config_core.specs.declared.registers.Noted.TheVariants as noted
use Rattle.config_core.specs.SetupView.{SetupView}
use Rattle.config_core.specs.RegistersView.{RegistersView}
use Rattle.config_core.specs.Registers.{written, after_error, after_poison}
use Rattle.config_core.specs.Changes.{Write, Error}
use Rattle.config_core.specs.declared.request.CfgRequest.{CfgRequest}
use Rattle.endpoint_core.specs.declared.received.Received.{Received}
use Rattle.endpoint_core.specs.declared.received.Received.TheVariants as received
use Rattle.endpoint_core.specs.declared.waiting.Waiting.{Waiting}
use Rattle.endpoint_core.specs.declared.waiting.Waiting.TheVariants as waits
use Rattle.endpoint_core.specs.EndpointView.{DeviceView, EndpointView}
use Rattle.endpoint_core.specs.Steps as device
use Rattle.endpoint_core.specs.Runs.{blocks_in, blocks_by, blocks_waiting, blocks_leaving, leaving_at, leaving_op, Act}
use Rattle.endpoint_log.specs.LogView.{LogView}
use Rattle.endpoint_log.specs.Steps as log
use Rattle.endpoint_laws.proofs.State.{AreOpen}
use Rattle.endpoint_laws.proofs.Registers.{Stays, IsSized, KeepsPlace, change_setup, change_sized, error_keeps, poison_keeps, reset_sized, base_whole}
use Rattle.endpoint_laws.proofs.Coming.{IsSound, Asks, asked_of, posted_of}
use Rattle.endpoint_laws.proofs.Served.{IsPlace, AllGood, AreBlocks, served, answer_served}
use Rattle.endpoint_laws.proofs.Claimed.{IsClaimed, claimed_is, is_claimed, claimed_with, first_posted, first_place, IsRest, rest_of, rest_claimed, reads_data, carries, completes}
use Rattle.endpoint_laws.proofs.Logging.{Laws, Has, has_length, good_blocks, waiting_blocks, post_all, post_all_open, post_all_begun, submitted_all, submit_all, submit_all_open, entering, answering, act_one, act_one_open}

-- the block requests from number k on are those of the oldest request that waits, which is claimed
pub record IsUnderWay (e : EndpointView) (l : LogView) (k : ℕ) : Type 0 where
  pub base : ℕ
  pub t : TlpView
  pub op : Op
  pub ws : List Waiting
  pub head : e.waiting ≡ waits.Memory t ∷ ws
  pub asks : op_of t ≡ Some op
  pub claimed : IsClaimed e.device base op
  pub open_ones : AreOpen l.claim k (map (log.moved base) (device.blocks_of op))

abbrev pub UnderWay : EndpointView → LogView → Option ℕ → Type 0
UnderWay e l None = Unit {0}
UnderWay e l (Some k) = IsUnderWay e l k

pub record IsTraced (e : EndpointView) (l : LogView) : Type 0 where
  pub registers : IsSized e.device.registers
  pub has : Has e.device.registers.setup.size e.device.bytes l
  pub blocks : AreBlocks (blocks_waiting e)
  pub under_way : UnderWay e l l.begun

abbrev pub at : DeviceView → List Waiting → EndpointView
at d ws = record { device = d; waiting = ws }

-- ---- parts

blocks_append : (xs ys : List Op) → AreBlocks xs → AreBlocks ys → AreBlocks (xs ++ ys)
blocks_append [] ys p q = q
blocks_append (x ∷ xs) ys p q = (p.0, p.1, blocks_append xs ys p.2 q)

blocks_behind : (xs ys : List Op) → AreBlocks (xs ++ ys) → AreBlocks ys
blocks_behind [] ys p = p
blocks_behind (x ∷ xs) ys p = blocks_behind xs ys p.2

blocks_front : (xs ys : List Op) → AreBlocks (xs ++ ys) → AreBlocks xs
blocks_front [] ys p = tt
blocks_front (x ∷ xs) ys p = (p.0, p.1, blocks_front xs ys p.2)

pub whole_base : (d : DeviceView) (base : ℕ) (op : Op) → IsSized d.registers → IsClaimed d base op → base % 128 ≡ 0
whole_base d base op s c = subst (λ (x : ℕ). x % 128 ≡ 0) c.is (base_whole d.registers s)

-- the same claim of a device with other bytes
other_bytes : (d : DeviceView) (bytes : List ℕ) (base : ℕ) (op : Op) → IsClaimed d base op → IsClaimed (record d { bytes = bytes }) base op
other_bytes d bytes base op c = record { on = c.on; is = c.is; place = c.place; fits = c.fits }

-- the log has the same but for what is begun
rebegun : (size : ℕ) (m : List ℕ) (l : LogView) (o : Option ℕ) → Has size m l → Has size m (record l { begun = o })
rebegun size m l o h = record { extent = h.extent; bytes = h.bytes; state = h.state }

-- ---- registers keep the memory's place

kept_under_way : (e : EndpointView) (l : LogView) (q : RegistersView) (o : Option ℕ) → KeepsPlace e.device.registers q → UnderWay e l o → UnderWay (device.on_device e (record e.device { registers = q })) l o
kept_under_way e l q None k u = tt
kept_under_way e l q (Some n) k u = record {
  base = u.base;
  t = u.t;
  op = u.op;
  ws = u.ws;
  head = u.head;
  asks = u.asks;
  claimed = claimed_with e.device q u.base u.op k u.claimed;
  open_ones = u.open_ones;
}

kept_traced : (e : EndpointView) (l : LogView) (q : RegistersView) → KeepsPlace e.device.registers q → IsTraced e l → IsTraced (device.on_device e (record e.device { registers = q })) l
kept_traced e l q k i = record {
  registers = k.sized i.registers;
  has = subst (λ (s : SetupView). Has s.size e.device.bytes l) (sym k.setup) i.has;
  blocks = i.blocks;
  under_way = kept_under_way e l q l.begun k i.under_way;
}

note_traced : Stays → (e : EndpointView) (l : LogView) (n : Noted) → IsTraced e l → IsTraced (device.on_device e (device.noting e.device n)) l
note_traced stays e l n i = kept_traced e l (after_error e.device.registers n) (error_keeps stays e.device.registers n) i

pub poison_traced : Stays → (came : Bool) (e : EndpointView) (l : LogView) → IsTraced e l → IsTraced (device.on_device e (device.with_poison came e.device)) l
poison_traced stays came e l i = kept_traced e l (if came then after_poison e.device.registers else e.device.registers) (poison_keeps stays e.device.registers came) i

-- ---- a TLP comes

queue_under_way : (e : EndpointView) (l : LogView) (w : Waiting) (o : Option ℕ) → UnderWay e l o → UnderWay (device.queued e w) l o
queue_under_way e l w None u = tt
queue_under_way e l w (Some k) u = record {
  base = u.base;
  t = u.t;
  op = u.op;
  ws = u.ws ++ w ∷ [];
  head = ap (λ (ws : List Waiting). ws ++ w ∷ []) u.head;
  asks = u.asks;
  claimed = u.claimed;
  open_ones = u.open_ones;
}

queue_traced : (e : EndpointView) (l : LogView) (w : Waiting) → AreBlocks (blocks_by w) → IsTraced e l → IsTraced (device.queued e w) l
queue_traced e l w b i = record {
  registers = i.registers;
  has = i.has;
  blocks = subst AreBlocks (sym (flat_map-append blocks_by e.waiting (w ∷ []))) (blocks_append (blocks_waiting e) (blocks_by w ++ []) i.blocks (subst AreBlocks (sym (append-nil (blocks_by w))) b));
  under_way = queue_under_way e l w l.begun i.under_way;
}

coming_blocks : Laws → (o : Option Op) → IsSound false o → AreBlocks (blocks_in o)
coming_blocks w None s = tt
coming_blocks w (Some op) s = waiting_blocks w op s.0 s.1

post_under_way : Laws → (e : EndpointView) (l : LogView) (base : ℕ) (op : Op) (o : Option ℕ) → base % 128 ≡ 0 → Has e.device.registers.setup.size e.device.bytes l → AllGood true base e.device.registers.setup.size (device.blocks_of op)
    → UnderWay e l o → UnderWay (device.on_device e (device.posted_at e.device op (Some base))) (log.posted_at op l (Some base)) o
post_under_way w e l base op None whole h g u = tt
post_under_way w e l base op (Some k) whole h g u = record {
  base = u.base;
  t = u.t;
  op = u.op;
  ws = u.ws;
  head = u.head;
  asks = u.asks;
  claimed = other_bytes e.device (device.after_all base e.device.bytes (device.blocks_of op)) u.base u.op u.claimed;
  open_ones = post_all_open w e.device.registers.setup.size base k e.device.bytes l (device.blocks_of op) (map (log.moved u.base) (device.blocks_of u.op)) whole h g u.open_ones;
}

post_at : Laws → Stays → (e : EndpointView) (l : LogView) (op : Op) (b : Option ℕ) → op_fault op ≡ None → is_posted op ≡ true → device.base_of_op e.device op ≡ b → IsTraced e l
    → IsTraced (device.on_device e (device.posted_at e.device op b)) (log.posted_at op l b)
post_at w stays e l op None none is none_claimed i = note_traced stays e l noted.Unclaimed i
post_at w stays e l op (Some base) none is claimed i =
    let size = e.device.registers.setup.size in
    let c : IsClaimed e.device base op = claimed_is e.device base op claimed in
    let whole : base % 128 ≡ 0 = whole_base e.device base op i.registers c in
    let g : AllGood true base size (device.blocks_of op) = good_blocks w true base size op none is c.place in
    let l' : LogView = log.posted_at op l (Some base) in
    record {
      registers = i.registers;
      has = post_all w size base e.device.bytes l (device.blocks_of op) whole i.has g;
      blocks = i.blocks;
      under_way = subst (UnderWay (device.on_device e (device.posted_at e.device op (Some base))) l') (sym (post_all_begun base l (device.blocks_of op))) (post_under_way w e l base op l.begun whole i.has g i.under_way);
    }

post_traced : Laws → Stays → (e : EndpointView) (l : LogView) (o : Option Op) → IsSound true o → IsTraced e l → IsTraced (device.on_device e (device.posted e.device o)) (log.posted_by e.device l o)
post_traced w stays e l None s i = i
post_traced w stays e l (Some op) s i = post_at w stays e l op (device.base_of_op e.device op) s.0 s.1 refl i

pub took : Laws → Stays → (e : EndpointView) (l : LogView) (r : Received) → Asks r → IsTraced e l → IsTraced (device.taken_as e r) (log.came e.device r l)
took w stays e l (received.Posted t) a i = post_traced w stays e l (op_of t) (posted_of t a) i
took w stays e l (received.NonPosted t) a i = queue_traced e l (waits.Memory t) (coming_blocks w (op_of t) (asked_of t a)) i
took w stays e l (received.Configuration r) a i = queue_traced e l (waits.Configuration r) tt i
took w stays e l (received.PoisonedPosted t) a i = note_traced stays e l (device.dropped_error e.device (op_of t)) i
took w stays e l (received.PoisonedNonPosted t) a i = queue_traced e l (waits.Poisoned t) tt i
took w stays e l (received.Refused d n) a i = queue_traced e l (waits.Refused d n) tt i
took w stays e l (received.Unsupported n) a i = note_traced stays e l n i
took w stays e l received.Ignored a i = i
took w stays e l received.Unexpected a i = note_traced stays e l noted.Unexpected i
took w stays e l (received.Malformed f) a i = note_traced stays e l noted.Fatal i

-- ---- a request acts that is no memory request

record IsLike (d c : DeviceView) : Type 0 where
  sized : IsSized c.registers
  setup : c.registers.setup ≡ d.registers.setup
  bytes : c.bytes ≡ d.bytes

like_by : (b : Bool) (d x y : DeviceView) → IsLike d x → IsLike d y → IsLike d (cond b x y)
like_by true d x y p q = p
like_by false d x y p q = q

same_like : (d : DeviceView) → IsSized d.registers → IsLike d d
same_like d s = record { sized = s; setup = refl; bytes = refl }

noted_like : Stays → (d : DeviceView) (n : Noted) → IsSized d.registers → IsLike d (device.noting d n)
noted_like stays d n s = record { sized = change_sized stays d.registers (Error n) s; setup = change_setup d.registers (Error n); bytes = refl }

written_like : Stays → (d : DeviceView) (r : CfgRequest) → IsSized d.registers → IsLike d (record d { registers = written d.registers r.register (r.enables % 16) r.value; completer = device.captured r })
written_like stays d r s = record { sized = change_sized stays d.registers (Write r.register (r.enables % 16) r.value) s; setup = change_setup d.registers (Write r.register (r.enables % 16) r.value); bytes = refl }

configured_like : Stays → (d : DeviceView) (r : CfgRequest) → IsSized d.registers → IsLike d (device.configured d r)
configured_like stays d r s =
    like_by (not (device.is_supported r)) d _ _ (noted_like stays d noted.Refused s) (like_by r.writes d _ _ (written_like stays d r s) (same_like d s))

like_has : (d c : DeviceView) (l : LogView) → IsLike d c → Has d.registers.setup.size d.bytes l → Has c.registers.setup.size c.bytes l
like_has d c l k h = subst (λ (m : List ℕ). Has c.registers.setup.size m l) (sym k.bytes) (subst (λ (s : SetupView). Has s.size d.bytes l) (sym k.setup) h)

-- no block of the oldest request has acted, if it is no memory request
no_memory : (d c : DeviceView) (w : Waiting) (ws : List Waiting) (l : LogView) (o : Option ℕ) → ((t : TlpView) → w ≡ waits.Memory t → ⊥) → UnderWay (at d (w ∷ ws)) l o → UnderWay (at c ws) l o
no_memory d c w ws l None not u = tt
no_memory d c w ws l (Some k) not u = let head : w ∷ ws ≡ waits.Memory u.t ∷ u.ws = u.head in absurd (not u.t (cc))

other_acts : (d c : DeviceView) (w : Waiting) (ws : List Waiting) (l : LogView) → ((t : TlpView) → w ≡ waits.Memory t → ⊥) → blocks_by w ≡ [] → IsLike d c → IsTraced (at d (w ∷ ws)) l → IsTraced (at c ws) l
other_acts d c w ws l not none k i = record {
  registers = k.sized;
  has = like_has d c l k i.has;
  blocks = subst (λ (xs : List Op). AreBlocks (xs ++ flat_map blocks_by ws)) none i.blocks;
  under_way = no_memory d c w ws l l.begun not i.under_way;
}

-- ---- a memory request that isn't claimed

not_claimed : (d c : DeviceView) (t : TlpView) (ws : List Waiting) (l : LogView) (o : Option ℕ) → ((base : ℕ) (op : Op) → op_of t ≡ Some op → device.base_of_op d op ≡ Some base → ⊥)
    → UnderWay (at d (waits.Memory t ∷ ws)) l o → UnderWay (at c ws) l o
not_claimed d c t ws l None not u = tt
not_claimed d c t ws l (Some k) not u =
    let head : waits.Memory t ∷ ws ≡ waits.Memory u.t ∷ u.ws = u.head in
    let same : u.t ≡ t = cc in
    absurd (not u.base u.op (ap op_of (sym same) ∙ u.asks) (is_claimed d u.base u.op u.claimed))

drops : (d c : DeviceView) (t : TlpView) (ws : List Waiting) (l : LogView) → ((base : ℕ) (op : Op) → op_of t ≡ Some op → device.base_of_op d op ≡ Some base → ⊥) → IsLike d c
    → IsTraced (at d (waits.Memory t ∷ ws)) l → IsTraced (at c ws) l
drops d c t ws l not k i = record {
  registers = k.sized;
  has = like_has d c l k i.has;
  blocks = blocks_behind (blocks_in (op_of t)) (flat_map blocks_by ws) i.blocks;
  under_way = not_claimed d c t ws l l.begun not i.under_way;
}

-- ---- a block of a claimed request acts

record IsBegun (d : DeviceView) (base : ℕ) (op : Op) (l : LogView) (k : ℕ) : Type 0 where
  has : Has d.registers.setup.size d.bytes l
  open_ones : AreOpen l.claim k (map (log.moved base) (device.blocks_of op))

begun_by : (d : DeviceView) (t : TlpView) (ws : List Waiting) (base : ℕ) (op : Op) (l : LogView) (o : Option ℕ) → op_of t ≡ Some op → IsClaimed d base op → AreBlocks (device.blocks_of op)
    → Has d.registers.setup.size d.bytes l → UnderWay (at d (waits.Memory t ∷ ws)) l o → IsBegun d base op (log.begins_at base op l o) (log.number_in l o)
begun_by d t ws base op l None asks c bs h u = record {
  has = rebegun d.registers.setup.size d.bytes (submitted_all base l (device.blocks_of op)) (Some l.submitted) (submit_all d.registers.setup.size base d.bytes l (device.blocks_of op) h bs);
  open_ones = submit_all_open base l (device.blocks_of op) h.state bs;
}
begun_by d t ws base op l (Some k) asks c bs h u =
    let head : waits.Memory t ∷ ws ≡ waits.Memory u.t ∷ u.ws = u.head in
    let same : u.t ≡ t = cc in
    let there : op_of t ≡ Some u.op = ap op_of (sym same) ∙ u.asks in
    let same_op : u.op ≡ op = cc in
    let same_base : u.base ≡ base = sym u.claimed.is ∙ c.is in
    record {
      has = h;
      open_ones = subst (λ (x : ℕ). AreOpen l.claim k (map (log.moved x) (device.blocks_of op))) same_base (subst (λ (x : Op). AreOpen l.claim k (map (log.moved u.base) (device.blocks_of x))) same_op u.open_ones);
    }

is_zero : (n : ℕ) → (n == 0) ≡ false → n ≢ 0
is_zero n h e = absurd (let t : (n == 0) ≡ true = grind (arith, nat_tests) in let clash : true ≡ false = sym t ∙ h in cc)

module _ (w : Laws) (d : DeviceView) (t : TlpView) (ws : List Waiting) (base : ℕ) (op : Op) (l : LogView) (i : IsTraced (at d (waits.Memory t ∷ ws)) l) (asks : op_of t ≡ Some op) (c : IsClaimed d base op) where
  abbrev size : ℕ
  size = d.registers.setup.size

  abbrev first : Op
  first = device.first_block op

  abbrev rest : List Op
  rest = flat_map blocks_by ws

  abbrev k : ℕ
  k = log.next_number l

  abbrev begun : LogView
  begun = log.begins base op l

  abbrev now : DeviceView
  now = record d { bytes = after base 128 d.bytes first }

  abbrev left : Bool → List Waiting
  left z = cond z ws (waits.Memory (device.behind (device.dw_in_front op) t) ∷ ws)

  abbrev logs : Reply → Option ℕ → LogView
  logs r o = record (answering k (entering base k begun first) r) { begun = o }

  whole : base % 128 ≡ 0
  whole = whole_base d base op i.registers c

  all : AreBlocks (device.blocks_of op ++ rest)
  all = subst (λ (o : Option Op). AreBlocks (blocks_in o ++ rest)) asks i.blocks

  is_begun : IsBegun d base op begun k
  is_begun = begun_by d t ws base op l l.begun asks c (blocks_front (device.blocks_of op) rest all) i.has i.under_way

  place : IsPlace base size first
  place = first_place base size op c.place

  -- what is open behind the first block
  abbrev tail : Bool → List Op
  tail z = cond z [] (blocks_in (op_of (device.behind (device.dw_in_front op) t)))

  split : (z : Bool) → device.blocks_of op ++ rest ≡ first ∷ flat_map blocks_by (left z) → device.blocks_of op ≡ first ∷ tail z
  split true e = append_cancel_right (device.blocks_of op) (first ∷ []) rest e
  split false e = append_cancel_right (device.blocks_of op) (first ∷ blocks_in (op_of (device.behind (device.dw_in_front op) t))) rest e

  goes_on : (z : Bool) → (device.dw_in_front op == 0) ≡ z → (l' : LogView) → AreOpen l'.claim (k + 1) (map (log.moved base) (tail z)) → UnderWay (at now (left z)) l' (cond z None (Some (k + 1)))
  goes_on true is l' o = tt
  goes_on false is l' o =
      let r : IsRest (op_of (device.behind (device.dw_in_front op) t)) op = rest_of t op asks (is_zero (device.dw_in_front op) is) in
      record {
        base = base;
        t = device.behind (device.dw_in_front op) t;
        op = r.rest;
        ws = ws;
        head = refl;
        asks = r.is;
        claimed = other_bytes d (after base 128 d.bytes first) base r.rest (rest_claimed d base op (op_of (device.behind (device.dw_in_front op) t)) c r);
        open_ones = subst (λ (xs : List Op). AreOpen l'.claim (k + 1) (map (log.moved base) xs)) (ap blocks_in r.is) o;
      }

  module _ (moves : device.blocks_of op ++ rest ≡ first ∷ flat_map blocks_by (left (device.dw_in_front op == 0))) where
    blocks_now : AreBlocks (first ∷ flat_map blocks_by (left (device.dw_in_front op == 0)))
    blocks_now = subst AreBlocks moves all

    here : IsPlace base (length d.bytes) first
    here = subst (λ (x : ℕ). IsPlace base x first) (sym (has_length w size d.bytes l i.has)) place

    abbrev old : List ℕ
    old = bytes_at d.bytes (address_of first - base) (count_of first)

    original : (bytes : List ℕ) × (read_back first old ≡ data_of bytes)
    original = reads_data first old blocks_now.1

    replied : answer base 128 d.bytes first ≡ data_of original.0
    replied = answer_served base d.bytes first (served base (length d.bytes) first blocks_now.0 here) ∙ original.1

    opened : AreOpen begun.claim k (map (log.moved base) (first ∷ tail (device.dw_in_front op == 0)))
    opened = subst (λ (xs : List Op). AreOpen begun.claim k (map (log.moved base) xs)) (split (device.dw_in_front op == 0) moves) is_begun.open_ones

    after_first : Has size (after base 128 d.bytes first) (answering k (entering base k begun first) (data_of original.0))
    after_first = act_one w size base k d.bytes begun first (data_of original.0) whole is_begun.has blocks_now.0 place blocks_now.1 opened.0 (sym replied)

    still_open : AreOpen (answering k (entering base k begun first) (data_of original.0)).claim (k + 1) (map (log.moved base) (tail (device.dw_in_front op == 0)))
    still_open = act_one_open w size base k d.bytes begun first (data_of original.0) whole is_begun.has blocks_now.0 place blocks_now.1 opened.0 (sym replied) (map (log.moved base) (tail (device.dw_in_front op == 0))) opened.1

    told : IsTraced (at now (left (device.dw_in_front op == 0))) (log.answered_by (log.enters_first base op l) (Some k) (Some (carries d t original.0)))
    told = record {
      registers = i.registers;
      has = rebegun size (after base 128 d.bytes first) (answering k (entering base k begun first) (data_of original.0)) (log.number_behind (device.dw_in_front op) k) after_first;
      blocks = blocks_now.2;
      under_way = goes_on (device.dw_in_front op == 0) refl (log.answered_by (log.enters_first base op l) (Some k) (Some (carries d t original.0))) still_open;
    }

    acts_first : IsTraced (at now (left (device.dw_in_front op == 0))) (log.answered_by (log.enters_first base op l) (Some k) (device.completion_at d t op (Some base)))
    acts_first =
        subst (λ (o : Option TlpView). IsTraced (at now (left (device.dw_in_front op == 0))) (log.answered_by (log.enters_first base op l) (Some k) o))
        (sym (completes d t op base original.0 asks (sym (first_posted op) ∙ blocks_now.1) replied)) told

-- ---- the oldest request acts

-- the block requests that wait are those that leave and those that wait then
abbrev pub Moves : EndpointView → Type 0
Moves e = blocks_waiting e ≡ blocks_leaving e Act ++ blocks_waiting (device.acted e)

claimed_acts : Laws → Stays → (d : DeviceView) (t : TlpView) (ws : List Waiting) (op : Op) (l : LogView) (b : Option ℕ) → op_of t ≡ Some op → device.base_of_op d op ≡ b
    → device.blocks_of op ++ flat_map blocks_by ws ≡ leaving_at op b ++ flat_map blocks_by (device.advanced (device.done_at op b) (waits.Memory t ∷ ws)) → IsTraced (at d (waits.Memory t ∷ ws)) l
    → IsTraced (at (device.acted_at d op b) (device.advanced (device.done_at op b) (waits.Memory t ∷ ws))) (log.answered_by (log.entered_at op l b) (log.number_at l b) (device.completion_at d t op b))
claimed_acts w stays d t ws op l (Some base) asks claimed moves i = acts_first w d t ws base op l i asks (claimed_is d base op claimed) moves
claimed_acts w stays d t ws op l None asks none moves i =
    drops d (device.noting d noted.Refused) t ws l
    (λ base other e claimed. let same : op ≡ other = cc in let clash : Some base ≡ None = sym claimed ∙ (ap (device.base_of_op d) (sym same) ∙ none) in cc)
    (noted_like stays d noted.Refused i.registers) i

memory_acts : Laws → Stays → (d : DeviceView) (t : TlpView) (ws : List Waiting) (l : LogView) (o : Option Op) → op_of t ≡ o
    → blocks_in o ++ flat_map blocks_by ws ≡ leaving_op d o ++ flat_map blocks_by (device.advanced (device.memory_done d o) (waits.Memory t ∷ ws)) → IsTraced (at d (waits.Memory t ∷ ws)) l
    → IsTraced (at (device.memory_acted d o) (device.advanced (device.memory_done d o) (waits.Memory t ∷ ws))) (log.answered_by (log.entered_by d l o) (log.number_by d l o) (device.memory_completion d t o))
memory_acts w stays d t ws l (Some op) asks moves i = claimed_acts w stays d t ws op l (device.base_of_op d op) asks refl moves i
memory_acts w stays d t ws l None asks moves i = drops d d t ws l (λ base op e claimed. let clash : Some op ≡ None = sym e ∙ asks in cc) (same_like d i.registers) i

acts_on : Laws → Stays → (d : DeviceView) (xs : List Waiting) (l : LogView) → Moves (at d xs) → IsTraced (at d xs) l
    → IsTraced (device.acted_on (at d xs) xs) (log.answered_by (log.entered_by d l (device.oldest_op xs)) (log.number_by d l (device.oldest_op xs)) (device.next_by d xs))
acts_on w stays d [] l moves i = i
acts_on w stays d (waits.Memory t ∷ ws) l moves i = memory_acts w stays d t ws l (op_of t) refl moves i
acts_on w stays d (waits.Configuration r ∷ ws) l moves i = other_acts d (device.configured d r) (waits.Configuration r) ws l (λ t e. cc) refl (configured_like stays d r i.registers) i
acts_on w stays d (waits.Poisoned t ∷ ws) l moves i =
    let n = device.poisoned_error d (op_of t) in
    other_acts d (device.noting d n) (waits.Poisoned t) ws l (λ t e. cc) refl (noted_like stays d n i.registers) i
acts_on w stays d (waits.Refused c n ∷ ws) l moves i = other_acts d (device.noting d n) (waits.Refused c n) ws l (λ t e. cc) refl (noted_like stays d n i.registers) i

pub acts : Laws → Stays → (e : EndpointView) (l : LogView) → Moves e → IsTraced e l → IsTraced (device.acted e) (log.acted e l)
acts w stays e l moves i = acts_on w stays e.device e.waiting l moves i

-- ---- a reset, and a new device

pub resets : (e : EndpointView) (l : LogView) → IsTraced e l → IsTraced (device.after_reset_of e) (log.dropped l)
resets e l i = record {
  registers = reset_sized e.device.registers.setup i.registers.sized;
  has = rebegun e.device.registers.setup.size e.device.bytes l None i.has;
  blocks = tt;
  under_way = tt;
}
