-- What is submitted for a device are block requests of its memory.
use Rattle.std.proofs.Common.{◌≡◌, ◌∙◌, ℕ, zero, suc, ◌+◌, ◌%◌, ◌<◌, Bool, true, false, List, [], ◌∷◌, ◌++◌, length, drop, cond, Option, Some, None, refl, sym, ap, subst, arith, ⊎_elim}
use Rattle.std.specs.Prelude.{fold, slice_get, ◌==◌, not}
use Rattle.tlp_core.specs.Ops.{Op}
use Rattle.tlp_core.specs.declared.operation.OpOf.TheVariants as ops
use Rattle.tlp_core.specs.Operation.{op_of, op_fault, is_posted}
use Rattle.tlp_core.specs.Bits.{IsBytes}
use Rattle.tlp_core.specs.TlpView.{TlpView}
use Rattle.op_pieces.specs.Pieces.{all_bytes, bytes_of}
use Rattle.history_words.specs.Records.{Record}
use Rattle.history_words.specs.declared.record.RecordOf.TheVariants.{Sub, Ans}
use Rattle.config_core.specs.declared.registers.Noted.{Noted}
use Rattle.config_core.specs.declared.registers.Noted.TheVariants as noted
use Rattle.config_core.specs.SetupView.{SetupView}
use Rattle.config_core.specs.Changes.{Write, Error}
use Rattle.config_core.specs.declared.request.CfgRequest.{CfgRequest}
use Rattle.endpoint_core.specs.declared.received.Received.{Received}
use Rattle.endpoint_core.specs.declared.received.Received.TheVariants as received
use Rattle.endpoint_core.specs.declared.waiting.Waiting.{Waiting}
use Rattle.endpoint_core.specs.declared.waiting.Waiting.TheVariants as waits
use Rattle.endpoint_core.specs.EndpointView.{DeviceView, EndpointView}
use Rattle.endpoint_core.specs.Steps as device
use Rattle.endpoint_log.specs.LogView.{LogView}
use Rattle.endpoint_log.specs.Steps as log
use Rattle.endpoint_laws.proofs.Lists.{get_push}
use Rattle.endpoint_laws.proofs.Registers.{IsSized, change_setup}
use Rattle.endpoint_laws.proofs.Coming.{IsSound, Asks, asked_of, posted_of}
use Rattle.endpoint_laws.proofs.Served.{IsBlock, IsPlace, AllGood, block_moved, inside_moved}
use Rattle.endpoint_laws.proofs.Claimed.{IsClaimed, claimed_is}
use Rattle.endpoint_laws.proofs.Logging.{Laws, good_blocks}
use Rattle.endpoint_laws.proofs.Traced.{IsTraced, UnderWay, at, whole_base}

-- the bytes of a request's blocks are its bytes
abbrev pub Carries : Type 0
Carries = (op : Op) → op_fault op ≡ None → all_bytes (device.blocks_of op) ≡ bytes_of op

pub record IsGood (size : ℕ) (op : Op) : Type 0 where
  pub block : IsBlock op
  pub place : IsPlace 0 size op
  pub bytes : IsBytes (bytes_of op)

abbrev pub AreMade : ℕ → List Record → Type 0
AreMade size rs = (a i k n : ℕ) (op : Op) → slice_get rs a ≡ Some (Sub i k op n) → (i ≡ 1) × IsGood size op

abbrev NoFault : Option Op → Type 0
NoFault None = Unit {0}
NoFault (Some op) = (op_fault op ≡ None) × (is_posted op ≡ false)

abbrev FaultlessIn : Waiting → Type 0
FaultlessIn (waits.Memory t) = NoFault (op_of t)
FaultlessIn (waits.Configuration r) = Unit {0}
FaultlessIn (waits.Poisoned t) = Unit {0}
FaultlessIn (waits.Refused d n) = Unit {0}

abbrev AreFaultless : List Waiting → Type 0
AreFaultless [] = Unit {0}
AreFaultless (w ∷ ws) = FaultlessIn w × AreFaultless ws

-- all that wait, but for one of which a block has acted
abbrev AreFresh : Option ℕ → List Waiting → Type 0
AreFresh None ws = AreFaultless ws
AreFresh (Some k) ws = AreFaultless (drop 1 ws)

pub record IsTold (size : ℕ) (e : EndpointView) (l : LogView) : Type 0 where
  pub setup : e.device.registers.setup.size ≡ size
  pub made : AreMade size l.claim.records
  pub fresh : AreFresh l.begun e.waiting

-- ---- records

sub_made : (size : ℕ) (rs : List Record) (k n : ℕ) (op : Op) → AreMade size rs → IsGood size op → AreMade size (rs ++ Sub 1 k op n ∷ [])
sub_made size rs k n op m g a i j q z e = ⊎_elim
    (λ (h : (a < length rs) × (slice_get rs a ≡ Some (Sub i j z q))). m a i j q z h.1)
    (λ (h : (a ≡ length rs) × ◌≡◌ {A = Record} (Sub 1 k op n) (Sub i j z q)).
    let same : ◌≡◌ {A = Record} (Sub 1 k op n) (Sub i j z q) = h.1 in
    let own : 1 ≡ i = cc in
    let same_op : op ≡ z = cc in
    (sym own, subst (IsGood size) same_op g))
    (get_push rs (Sub 1 k op n) a (Sub i j z q) e)

ans_made : (size : ℕ) (rs : List Record) (r : Record) → ((i k n : ℕ) (op : Op) → r ≡ Sub i k op n → ⊥) → AreMade size rs → AreMade size (rs ++ r ∷ [])
ans_made size rs r not m a i j q z e = ⊎_elim
    (λ (h : (a < length rs) × (slice_get rs a ≡ Some (Sub i j z q))). m a i j q z h.1)
    (λ (h : (a ≡ length rs) × (r ≡ Sub i j z q)). absurd (not i j q z h.1))
    (get_push rs r a (Sub i j z q) e)

answer_made : (size : ℕ) (l : LogView) (k : Option ℕ) (c : Option TlpView) → AreMade size l.claim.records → AreMade size (log.answered_by l k c).claim.records
answer_made size l (Some k) (Some c) m = ans_made size l.claim.records (Ans 1 k (log.reply_in c) (log.acted_count l)) (λ i j n op e. cc) m
answer_made size l (Some k) None m = m
answer_made size l None c m = m

-- ---- blocks

abbrev AllBytes : List Op → Type 0
AllBytes [] = Unit {0}
AllBytes (b ∷ bs) = IsBytes (bytes_of b) × AllBytes bs

bytes_front : (xs ys : List ℕ) → IsBytes (xs ++ ys) → IsBytes xs
bytes_front [] ys h i = omega arith
bytes_front (x ∷ xs) ys h zero = h 0
bytes_front (x ∷ xs) ys h (suc i) = bytes_front xs ys (λ j. h (suc j)) i

bytes_behind : (xs ys : List ℕ) → IsBytes (xs ++ ys) → IsBytes ys
bytes_behind [] ys h = h
bytes_behind (x ∷ xs) ys h = bytes_behind xs ys (λ j. h (suc j))

each_bytes : (bs : List Op) → IsBytes (all_bytes bs) → AllBytes bs
each_bytes [] h = tt
each_bytes (b ∷ bs) h = (bytes_front (bytes_of b) (all_bytes bs) h, each_bytes bs (bytes_behind (bytes_of b) (all_bytes bs) h))

pub no_bytes : (op : Op) → is_posted op ≡ false → IsBytes (bytes_of op)
no_bytes (ops.Read a dw f l) not i = omega arith
no_bytes (ops.Write a f l bytes) not i = absurd (cc)
no_bytes (ops.FetchAdd a w x) not i = omega arith
no_bytes (ops.Swap a w x) not i = omega arith
no_bytes (ops.Cas a w x y) not i = omega arith

bytes_moved : (base : ℕ) (op : Op) → bytes_of (log.moved base op) ≡ bytes_of op
bytes_moved base (ops.Read a dw f l) = refl
bytes_moved base (ops.Write a f l bytes) = refl
bytes_moved base (ops.FetchAdd a w x) = refl
bytes_moved base (ops.Swap a w x) = refl
bytes_moved base (ops.Cas a w x y) = refl

good_moved : (base size : ℕ) (b : Op) → base % 128 ≡ 0 → IsBlock b → IsPlace base size b → IsBytes (bytes_of b) → IsGood size (log.moved base b)
good_moved base size b whole block place bytes = record { block = block_moved base b whole place.low block; place = inside_moved base size b place; bytes = subst IsBytes (sym (bytes_moved base b)) bytes }

posts_made : (p : Bool) (base size : ℕ) (l : LogView) (bs : List Op) → base % 128 ≡ 0 → AllGood p base size bs → AllBytes bs → AreMade size l.claim.records → AreMade size (fold (log.posts base) l bs).claim.records
posts_made p base size l [] whole g b m = m
posts_made p base size l (x ∷ xs) whole g b m =
    posts_made p base size (log.posts base l x) xs whole g.3 b.1 (sub_made size l.claim.records l.submitted (log.acted_count l) (log.moved base x) m (good_moved base size x whole g.0 g.1 b.0))

submits_made : (p : Bool) (base size : ℕ) (l : LogView) (bs : List Op) → base % 128 ≡ 0 → AllGood p base size bs → AllBytes bs → AreMade size l.claim.records → AreMade size (fold (log.submits base) l bs).claim.records
submits_made p base size l [] whole g b m = m
submits_made p base size l (x ∷ xs) whole g b m =
    submits_made p base size (log.submits base l x) xs whole g.3 b.1 (sub_made size l.claim.records l.submitted (log.acted_count l) (log.moved base x) m (good_moved base size x whole g.0 g.1 b.0))

-- ---- what waits

faultless_more : (ws : List Waiting) (w : Waiting) → AreFaultless ws → FaultlessIn w → AreFaultless (ws ++ w ∷ [])
faultless_more [] w a f = (f, tt)
faultless_more (v ∷ ws) w a f = (a.0, faultless_more ws w a.1 f)

faultless_drop : (ws : List Waiting) → AreFaultless ws → AreFaultless (drop 1 ws)
faultless_drop [] a = tt
faultless_drop (w ∷ ws) a = a.1

fresh_more : (e : EndpointView) (l : LogView) (w : Waiting) (o : Option ℕ) → UnderWay e l o → AreFresh o e.waiting → FaultlessIn w → AreFresh o (e.waiting ++ w ∷ [])
fresh_more e l w None u a f = faultless_more e.waiting w a f
fresh_more e l w (Some k) u a f =
    subst (λ (ws : List Waiting). AreFaultless (drop 1 (ws ++ w ∷ []))) (sym u.head) (faultless_more u.ws w (subst (λ (ws : List Waiting). AreFaultless (drop 1 ws)) u.head a) f)

fresh_behind : (w : Waiting) (ws : List Waiting) (o : Option ℕ) → AreFresh o (w ∷ ws) → AreFaultless ws
fresh_behind w ws None a = a.1
fresh_behind w ws (Some k) a = a

faultless_fresh : (ws : List Waiting) (o : Option ℕ) → AreFaultless ws → AreFresh o ws
faultless_fresh ws None a = a
faultless_fresh ws (Some k) a = faultless_drop ws a

-- ---- a TLP comes

noted_told : (size : ℕ) (e : EndpointView) (l : LogView) (n : Noted) → IsTold size e l → IsTold size (device.on_device e (device.noting e.device n)) l
noted_told size e l n t = record { setup = ap (λ (s : SetupView). s.size) (change_setup e.device.registers (Error n)) ∙ t.setup; made = t.made; fresh = t.fresh }

pub poison_told : (size : ℕ) (came : Bool) (e : EndpointView) (l : LogView) → IsTold size e l → IsTold size (device.on_device e (device.with_poison came e.device)) l
poison_told size true e l t = record { setup = t.setup; made = t.made; fresh = t.fresh }
poison_told size false e l t = record { setup = t.setup; made = t.made; fresh = t.fresh }

queued_told : (size : ℕ) (e : EndpointView) (l : LogView) (w : Waiting) → FaultlessIn w → IsTraced e l → IsTold size e l → IsTold size (device.queued e w) l
queued_told size e l w f i t = record { setup = t.setup; made = t.made; fresh = fresh_more e l w l.begun i.under_way t.fresh f }

coming_faultless : (o : Option Op) → IsSound false o → NoFault o
coming_faultless None s = tt
coming_faultless (Some op) s = (s.0, s.1)

posted_fresh : (base : ℕ) (l : LogView) (bs : List Op) → (fold (log.posts base) l bs).begun ≡ l.begun
posted_fresh base l [] = refl
posted_fresh base l (b ∷ bs) = posted_fresh base (log.posts base l b) bs

posted_at_told : Laws → Carries → (size : ℕ) (e : EndpointView) (l : LogView) (op : Op) (b : Option ℕ) → op_fault op ≡ None → is_posted op ≡ true → IsBytes (bytes_of op) → device.base_of_op e.device op ≡ b → IsTraced e l → IsTold size e l
    → IsTold size (device.on_device e (device.posted_at e.device op b)) (log.posted_at op l b)
posted_at_told w carries size e l op None none is bytes un i t = noted_told size e l noted.Unclaimed t
posted_at_told w carries size e l op (Some base) none is bytes claimed i t =
    let c : IsClaimed e.device base op = claimed_is e.device base op claimed in
    let place : IsPlace base size op = subst (λ (x : ℕ). IsPlace base x op) t.setup c.place in
    record {
      setup = t.setup;
      made = posts_made true base size l (device.blocks_of op) (whole_base e.device base op i.registers c) (good_blocks w true base size op none is place) (each_bytes (device.blocks_of op) (subst IsBytes (sym (carries op none)) bytes)) t.made;
      fresh = subst (λ (o : Option ℕ). AreFresh o e.waiting) (sym (posted_fresh base l (device.blocks_of op))) t.fresh;
    }

posted_told : Laws → Carries → (size : ℕ) (e : EndpointView) (l : LogView) (o : Option Op) → IsSound true o → IsTraced e l → IsTold size e l → IsTold size (device.on_device e (device.posted e.device o)) (log.posted_by e.device l o)
posted_told w carries size e l None s i t = t
posted_told w carries size e l (Some op) s i t = posted_at_told w carries size e l op (device.base_of_op e.device op) s.0 s.1 s.2 refl i t

pub took_told : Laws → Carries → (size : ℕ) (e : EndpointView) (l : LogView) (r : Received) → Asks r → IsTraced e l → IsTold size e l → IsTold size (device.taken_as e r) (log.came e.device r l)
took_told w carries size e l (received.Posted t) a i p = posted_told w carries size e l (op_of t) (posted_of t a) i p
took_told w carries size e l (received.NonPosted t) a i p = queued_told size e l (waits.Memory t) (coming_faultless (op_of t) (asked_of t a)) i p
took_told w carries size e l (received.Configuration r) a i p = queued_told size e l (waits.Configuration r) tt i p
took_told w carries size e l (received.PoisonedPosted t) a i p = noted_told size e l (device.dropped_error e.device (op_of t)) p
took_told w carries size e l (received.PoisonedNonPosted t) a i p = queued_told size e l (waits.Poisoned t) tt i p
took_told w carries size e l (received.Refused d n) a i p = queued_told size e l (waits.Refused d n) tt i p
took_told w carries size e l (received.Unsupported n) a i p = noted_told size e l n p
took_told w carries size e l received.Ignored a i p = p
took_told w carries size e l received.Unexpected a i p = noted_told size e l noted.Unexpected p
took_told w carries size e l (received.Malformed f) a i p = noted_told size e l noted.Fatal p

-- ---- the oldest request acts

drops_told : (size : ℕ) (d c : DeviceView) (w : Waiting) (ws : List Waiting) (l : LogView) → c.registers.setup.size ≡ d.registers.setup.size → IsTold size (at d (w ∷ ws)) l → IsTold size (at c ws) l
drops_told size d c w ws l same t = record { setup = same ∙ t.setup; made = t.made; fresh = faultless_fresh ws l.begun (fresh_behind w ws l.begun t.fresh) }

size_by : (b : Bool) (x y : DeviceView) (n : ℕ) → x.registers.setup.size ≡ n → y.registers.setup.size ≡ n → (cond b x y).registers.setup.size ≡ n
size_by true x y n p q = p
size_by false x y n p q = q

configured_size : (d : DeviceView) (r : CfgRequest) → (device.configured d r).registers.setup.size ≡ d.registers.setup.size
configured_size d r =
    size_by (not (device.is_supported r)) _ _ d.registers.setup.size (ap (λ (s : SetupView). s.size) (change_setup d.registers (Error noted.Refused)))
    (size_by r.writes _ _ d.registers.setup.size (ap (λ (s : SetupView). s.size) (change_setup d.registers (Write r.register (r.enables % 16) r.value))) refl)

begun_made : Laws → (size base : ℕ) (op : Op) (l : LogView) (o : Option ℕ) (t : TlpView) (ws : List Waiting) → base % 128 ≡ 0 → op_of t ≡ Some op → IsPlace base size op → AreFresh o (waits.Memory t ∷ ws) → AreMade size l.claim.records → AreMade size (log.begins_at base op l o).claim.records
begun_made w size base op l (Some k) t ws whole asks place fresh m = m
begun_made w size base op l None t ws whole asks place fresh m =
    let none : (op_fault op ≡ None) × (is_posted op ≡ false) = subst NoFault asks fresh.0 in
    let good = good_blocks w false base size op none.0 none.1 place in
    submits_made false base size l (device.blocks_of op) whole good (blocks_bytes (device.blocks_of op) good) m
  where
    blocks_bytes : (bs : List Op) → AllGood false base size bs → AllBytes bs
    blocks_bytes [] g = tt
    blocks_bytes (b ∷ bs) g = (no_bytes b g.2, blocks_bytes bs g.3)

fresh_by : (z : Bool) (t : TlpView) (ws : List Waiting) (k : ℕ) → AreFaultless ws → AreFresh (cond z None (Some k)) (cond z ws (waits.Memory t ∷ ws))
fresh_by true t ws k a = a
fresh_by false t ws k a = a

claimed_told : Laws → (size : ℕ) (d : DeviceView) (t : TlpView) (ws : List Waiting) (op : Op) (l : LogView) (b : Option ℕ) (c : Option TlpView) → op_of t ≡ Some op → device.base_of_op d op ≡ b → IsSized d.registers → IsTold size (at d (waits.Memory t ∷ ws)) l
    → IsTold size (at (device.acted_at d op b) (device.advanced (device.done_at op b) (waits.Memory t ∷ ws))) (log.answered_by (log.entered_at op l b) (log.number_at l b) c)
claimed_told w size d t ws op l None c asks un s p = drops_told size d (device.noting d noted.Refused) (waits.Memory t) ws l (ap (λ (x : SetupView). x.size) (change_setup d.registers (Error noted.Refused))) p
claimed_told w size d t ws op l (Some base) c asks claimed s p =
    let k : IsClaimed d base op = claimed_is d base op claimed in
    let place : IsPlace base size op = subst (λ (x : ℕ). IsPlace base x op) p.setup k.place in
    record {
      setup = p.setup;
      made = answer_made size (log.enters_first base op l) (Some (log.next_number l)) c (begun_made w size base op l l.begun t ws (whole_base d base op s k) asks place p.fresh p.made);
      fresh = subst (λ (o : Option ℕ). AreFresh o (device.advanced (device.dw_in_front op) (waits.Memory t ∷ ws))) (sym (same_begun (log.enters_first base op l) (Some (log.next_number l)) c))
          (fresh_by (device.dw_in_front op == 0) (device.behind (device.dw_in_front op) t) ws (log.next_number l + 1) (fresh_behind (waits.Memory t) ws l.begun p.fresh));
    }
  where
    same_begun : (l : LogView) (k : Option ℕ) (c : Option TlpView) → (log.answered_by l k c).begun ≡ l.begun
    same_begun l (Some k) (Some c) = refl
    same_begun l (Some k) None = refl
    same_begun l None c = refl

memory_told : Laws → (size : ℕ) (d : DeviceView) (t : TlpView) (ws : List Waiting) (l : LogView) (o : Option Op) → op_of t ≡ o → IsSized d.registers → IsTold size (at d (waits.Memory t ∷ ws)) l
    → IsTold size (at (device.memory_acted d o) (device.advanced (device.memory_done d o) (waits.Memory t ∷ ws))) (log.answered_by (log.entered_by d l o) (log.number_by d l o) (device.memory_completion d t o))
memory_told w size d t ws l (Some op) asks s p = claimed_told w size d t ws op l (device.base_of_op d op) (device.completion_at d t op (device.base_of_op d op)) asks refl s p
memory_told w size d t ws l None asks s p = drops_told size d d (waits.Memory t) ws l refl p

acts_on_told : Laws → (size : ℕ) (d : DeviceView) (xs : List Waiting) (l : LogView) → IsSized d.registers → IsTold size (at d xs) l
    → IsTold size (device.acted_on (at d xs) xs) (log.answered_by (log.entered_by d l (device.oldest_op xs)) (log.number_by d l (device.oldest_op xs)) (device.next_by d xs))
acts_on_told w size d [] l s p = p
acts_on_told w size d (waits.Memory t ∷ ws) l s p = memory_told w size d t ws l (op_of t) refl s p
acts_on_told w size d (waits.Configuration r ∷ ws) l s p = drops_told size d (device.configured d r) (waits.Configuration r) ws l (configured_size d r) p
acts_on_told w size d (waits.Poisoned t ∷ ws) l s p =
    let n = device.poisoned_error d (op_of t) in
    drops_told size d (device.noting d n) (waits.Poisoned t) ws l (ap (λ (x : SetupView). x.size) (change_setup d.registers (Error n))) p
acts_on_told w size d (waits.Refused c n ∷ ws) l s p = drops_told size d (device.noting d n) (waits.Refused c n) ws l (ap (λ (x : SetupView). x.size) (change_setup d.registers (Error n))) p

pub acts_told : Laws → (size : ℕ) (e : EndpointView) (l : LogView) → IsTraced e l → IsTold size e l → IsTold size (device.acted e) (log.acted e l)
acts_told w size e l i p = acts_on_told w size e.device e.waiting l i.registers p

pub resets_told : (size : ℕ) (e : EndpointView) (l : LogView) → IsTold size e l → IsTold size (device.after_reset_of e) (log.dropped l)
resets_told size e l t = record { setup = t.setup; made = t.made; fresh = tt }
