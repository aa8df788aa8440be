-- The parts of a read are packets.
use Rattle.std.proofs.Common.{◌≡◌, ℕ, zero, suc, ◌+◌, ◌-◌, ◌*◌, ◌%◌, ◌^◌, ◌<◌, ◌≤◌, Bool, true, false, List, [], ◌∷◌, length, Option, Some, None, refl, ap, sym, subst, inl, inr, cond, arith, length-drop}
use Rattle.std.specs.Prelude.{◌⊎◌, ◌/◌, ◌&&◌, nat_le, option_map, is_none}
use Rattle.std.specs.List.{list_all}
use Rattle.std.proofs.lemmas.Bool.Decides.{nat_tests}
use Rattle.tlp_core.specs.declared.fault.TlpFault.{TlpFault}
use Rattle.tlp_core.specs.Ops.{Op}
use Rattle.tlp_core.specs.declared.operation.OpOf.TheVariants as ops
use Rattle.tlp_core.specs.declared.packet.Kind.{Kind}
use Rattle.tlp_core.specs.declared.packet.Kind.TheVariants as kinds
use Rattle.tlp_core.specs.declared.packet.Body.{Body}
use Rattle.tlp_core.specs.declared.packet.Body.TheVariants as bodies
use Rattle.tlp_core.specs.TlpView.{TlpView, IsPacket, FitsKind}
use Rattle.tlp_core.specs.Operation.{op_at, op_of, op_fault, address_of, count_of}
use Rattle.seq_memory.specs.Step.{after}
use Rattle.op_pieces.specs.Pieces.{inner, rest_first, rest_last, dw_of, dw_to, front, back, cut, is_faultless}
use Rattle.endpoint_core.specs.Steps.{after_all, blocks_of, dw_before_end, dw_in_front, behind, body_behind}
use Rattle.endpoint_core.specs.Blocks.{body_in_front, in_front, IsCut, IsCutAt, IsNonPosted}
use Rattle.endpoint_core.proofs.Enables.{front_enabled, behind_enabled}

small_inner : (n : ℕ) → inner n < 16
small_inner n = grind (arith, nat_tests)

small_first : (n l : ℕ) → l < 16 → rest_first n l < 16
small_first n l h = grind (arith, nat_tests)

small_last : (n l : ℕ) → l < 16 → rest_last n l < 16
small_last n l h = grind (arith, nat_tests)

aligned : (a n : ℕ) → a % 4 ≡ 0 → (a + 4 * n) % 4 ≡ 0
aligned a n h = omega (arith, h)

front_fits : (n dw given : ℕ) (b : Body) → 1 ≤ n → n < dw → FitsKind kinds.MemoryRead b dw given → FitsKind kinds.MemoryRead (body_in_front n b) n given
front_fits n dw given (bodies.Request a f l) one less h =
    ((one, h.0.1, h.0.2, small_inner n, front_enabled dw n a f l one less h.0.4), omega (arith, less, h.1), h.2)
front_fits n dw given (bodies.Completion c s m lower) one less h = absurd h

behind_fits : (n dw given : ℕ) (b : Body) → 1 ≤ n → n < dw → FitsKind kinds.MemoryRead b dw given → FitsKind kinds.MemoryRead (body_behind n dw b) (dw - n) given
behind_fits n dw given (bodies.Request a f l) one less h =
    ((omega (arith, less), aligned a n h.0.1, small_first (dw - n) l h.0.3, small_last (dw - n) l h.0.3, behind_enabled dw n a f l one less h.0.4), omega (arith, h.1), h.2)
behind_fits n dw given (bodies.Completion c s m lower) one less h = absurd h

at_kind : (k : Kind) (b c : Body) (dw n given : ℕ) → k ≡ kinds.MemoryRead → (FitsKind kinds.MemoryRead b dw given → FitsKind kinds.MemoryRead c n given) → FitsKind k b dw given → FitsKind k c n given
at_kind kinds.MemoryRead b c dw n given e f = f
at_kind kinds.MemoryWrite b c dw n given e f = absurd cc
at_kind kinds.FetchAdd b c dw n given e f = absurd cc
at_kind kinds.Swap b c dw n given e f = absurd cc
at_kind kinds.Cas b c dw n given e f = absurd cc
at_kind kinds.Completion b c dw n given e f = absurd cc
at_kind kinds.CompletionData b c dw n given e f = absurd cc

pub front_packet : (n : ℕ) (t : TlpView) → IsPacket t → IsCut n t → IsPacket (in_front n t)
front_packet n t p c = record { tc = p.tc; attr = p.attr; fits = at_kind t.kind t.body (body_in_front n t.body) t.length n (length t.payload) c.0 (front_fits n t.length (length t.payload) t.body c.1 c.2) p.fits }

pub behind_packet : (n : ℕ) (t : TlpView) → IsPacket t → IsCut n t → IsPacket (behind n t)
behind_packet n t p c = record { tc = p.tc; attr = p.attr; fits = at_kind t.kind t.body (body_behind n t.length t.body) t.length (t.length - n) (length t.payload) c.0 (behind_fits n t.length (length t.payload) t.body c.1 c.2) p.fits }

-- ---- how many DW of a read are in its first block

of_test : (b : Bool) (dw m : ℕ) → nat_le dw m ≡ b → ((cond b 0 m) ≡ 0) ⊎ ((1 ≤ cond b 0 m) × (cond b 0 m < dw))
of_test true dw m e = inl refl
of_test false dw zero e = inl refl
of_test false dw (suc m) e = inr (omega arith, grind (arith, nat_tests))

before_end : (a dw : ℕ) → (dw_before_end a dw ≡ 0) ⊎ ((1 ≤ dw_before_end a dw) × (dw_before_end a dw < dw))
before_end a dw = of_test (nat_le dw (dw_to 128 a)) dw (dw_to 128 a) refl

abbrev pub done_of : Option Op → ℕ
done_of None = 0
done_of (Some op) = dw_in_front op

abbrev pub Ends : Option Op → Type 0
Ends None = Unit {0}
Ends (Some op) = address_of op + count_of op ≤ 2 ^ 64

cut_read : (n a f l dw : ℕ) → a + 4 * dw ≤ 2 ^ 64 → (n ≡ 0) ⊎ ((1 ≤ n) × (n < dw)) → (n ≡ 0) ⊎ IsCutAt n kinds.MemoryRead (bodies.Request a f l) dw
cut_read n a f l dw le (inl e) = inl e
cut_read n a f l dw le (inr p) = inr (refl, p.0, p.1, le)

cut_at : (k : Kind) (b : Body) (dw : ℕ) (bytes : List ℕ) → Ends (op_at k b dw bytes) → (done_of (op_at k b dw bytes) ≡ 0) ⊎ IsCutAt (done_of (op_at k b dw bytes)) k b dw
cut_at kinds.MemoryRead (bodies.Request a f l) dw bytes le = cut_read (dw_before_end a dw) a f l dw le (before_end a dw)
cut_at kinds.MemoryRead (bodies.Completion c s n lower) dw bytes le = inl refl
cut_at kinds.MemoryWrite (bodies.Request a f l) dw bytes le = inl refl
cut_at kinds.MemoryWrite (bodies.Completion c s n lower) dw bytes le = inl refl
cut_at kinds.FetchAdd (bodies.Request a f l) dw bytes le = inl refl
cut_at kinds.FetchAdd (bodies.Completion c s n lower) dw bytes le = inl refl
cut_at kinds.Swap (bodies.Request a f l) dw bytes le = inl refl
cut_at kinds.Swap (bodies.Completion c s n lower) dw bytes le = inl refl
cut_at kinds.Cas (bodies.Request a f l) dw bytes le = inl refl
cut_at kinds.Cas (bodies.Completion c s n lower) dw bytes le = inl refl
cut_at kinds.Completion b dw bytes le = inl refl
cut_at kinds.CompletionData b dw bytes le = inl refl

pub cut_of : (t : TlpView) (op : Op) → op_of t ≡ Some op → address_of op + count_of op ≤ 2 ^ 64 → (dw_in_front op ≡ 0) ⊎ IsCut (dw_in_front op) t
cut_of t op e le =
    subst (λ (x : Option Op). (done_of x ≡ 0) ⊎ IsCutAt (done_of x) t.kind t.body t.length) e
    (cut_at t.kind t.body t.length t.payload (subst (λ (x : Option Op). Ends x) (sym e) le))

-- ---- the first DW of a read, as an operation

read_op : (k : Kind) (b : Body) (dw n : ℕ) (bytes : List ℕ) (op : Op) → k ≡ kinds.MemoryRead → op_at k b dw bytes ≡ Some op → op_at k (body_in_front n b) n bytes ≡ Some (front n op)
read_op kinds.MemoryRead (bodies.Request a f l) dw n bytes op is e = ap (option_map (front n)) e
read_op kinds.MemoryRead (bodies.Completion c s m lower) dw n bytes op is e = absurd cc
read_op kinds.MemoryWrite b dw n bytes op is e = absurd cc
read_op kinds.FetchAdd b dw n bytes op is e = absurd cc
read_op kinds.Swap b dw n bytes op is e = absurd cc
read_op kinds.Cas b dw n bytes op is e = absurd cc
read_op kinds.Completion b dw n bytes op is e = absurd cc
read_op kinds.CompletionData b dw n bytes op is e = absurd cc

pub front_op : (n : ℕ) (t : TlpView) (op : Op) → IsCut n t → op_of t ≡ Some op → op_of (in_front n t) ≡ Some (front n op)
front_op n t op c e = read_op t.kind t.body t.length n t.payload op c.0 e

-- ---- a posted write has at most 32 DW, in at most two blocks

abbrev pub Few : Option Op → Type 0
Few None = Unit {0}
Few (Some op) = dw_of op ≤ 32

few_at : (dw : ℕ) (bytes : List ℕ) → dw ≤ 32 → length bytes ≡ 4 * dw → length bytes / 4 ≤ 32
few_at dw bytes le e = omega (arith, le, e)

few_by : (k : Kind) (b : Body) (dw : ℕ) (bytes : List ℕ) (op : Op) → k ≡ kinds.MemoryWrite → FitsKind k b dw (length bytes) → op_at k b dw bytes ≡ Some op → dw_of op ≤ 32
few_by kinds.MemoryWrite (bodies.Request a f l) dw bytes op is h e = subst (λ (o : Option Op). Few o) e (few_at dw bytes h.1 h.2)
few_by kinds.MemoryWrite (bodies.Completion c s m lower) dw bytes op is h e = absurd h
few_by kinds.MemoryRead b dw bytes op is h e = absurd cc
few_by kinds.FetchAdd b dw bytes op is h e = absurd cc
few_by kinds.Swap b dw bytes op is h e = absurd cc
few_by kinds.Cas b dw bytes op is h e = absurd cc
few_by kinds.Completion b dw bytes op is h e = absurd cc
few_by kinds.CompletionData b dw bytes op is h e = absurd cc

pub few_of : (t : TlpView) (op : Op) → IsPacket t → t.kind ≡ kinds.MemoryWrite → op_of t ≡ Some op → dw_of op ≤ 32
few_of t op p is e = few_by t.kind t.body t.length t.payload op is p.fits e

one_given : (dw given : ℕ) → (dw ≡ 1) ⊎ (dw ≡ 2) → given ≡ 4 * dw → given ≤ 32
one_given dw given (inl e) g = omega (arith, e, g)
one_given dw given (inr e) g = omega (arith, e, g)

two_given : (dw given : ℕ) → (dw ≡ 2) ⊎ (dw ≡ 4) ⊎ (dw ≡ 8) → given ≡ 4 * dw → given ≤ 32
two_given dw given (inl e) g = omega (arith, e, g)
two_given dw given (inr (inl e)) g = omega (arith, e, g)
two_given dw given (inr (inr e)) g = omega (arith, e, g)

-- a non-posted request has at most two operands of 16 bytes
few_given : (k : Kind) (b : Body) (dw given : ℕ) → IsNonPosted k → FitsKind k b dw given → given ≤ 32
few_given kinds.MemoryRead (bodies.Request a f l) dw given is h = omega (arith, h.2)
few_given kinds.MemoryRead (bodies.Completion c s n lower) dw given is h = absurd h
few_given kinds.MemoryWrite b dw given is h = absurd is
few_given kinds.FetchAdd (bodies.Request a f l) dw given is h = one_given dw given h.0.0 h.1
few_given kinds.FetchAdd (bodies.Completion c s n lower) dw given is h = absurd h
few_given kinds.Swap (bodies.Request a f l) dw given is h = one_given dw given h.0.0 h.1
few_given kinds.Swap (bodies.Completion c s n lower) dw given is h = absurd h
few_given kinds.Cas (bodies.Request a f l) dw given is h = two_given dw given h.0.0 h.1
few_given kinds.Cas (bodies.Completion c s n lower) dw given is h = absurd h
few_given kinds.Completion b dw given is h = absurd is
few_given kinds.CompletionData b dw given is h = absurd is

pub few_operands : (t : TlpView) → IsPacket t → IsNonPosted t.kind → length t.payload ≤ 32
few_operands t p is = few_given t.kind t.body t.length (length t.payload) is p.fits

whole_blocks : (a : ℕ) → a % 4 ≡ 0 → dw_to 128 (a + 4 * dw_to 128 a) ≡ 32
whole_blocks a h = omega (arith, h)

shorter : (len n : ℕ) → (len - 4 * n) / 4 ≡ len / 4 - n
shorter len n = omega arith

-- what is behind the first block of at most 32 DW fits the next
pub back_fits : (op : Op) → op_fault op ≡ None → dw_of op ≤ 32 → dw_to 128 (address_of op) < dw_of op → nat_le (dw_of (back (dw_to 128 (address_of op)) op)) (dw_to 128 (address_of (back (dw_to 128 (address_of op)) op))) ≡ true
back_fits (ops.Read a dw f l) sound few less =
    let al : a % 4 ≡ 0 = grind (arith, nat_tests) in
    rw (whole_blocks a al) (grind (arith, nat_tests))
back_fits (ops.Write a f l bytes) sound few less =
    let al : a % 4 ≡ 0 = grind (arith, nat_tests) in
    rw (whole_blocks a al, length-drop (4 * dw_to 128 a) bytes.items, shorter (length bytes.items) (dw_to 128 a)) (grind (arith, nat_tests))
back_fits (ops.FetchAdd a w x) sound few less = absurd (omega (arith, less))
back_fits (ops.Swap a w x) sound few less = absurd (omega (arith, less))
back_fits (ops.Cas a w x y) sound few less = absurd (omega (arith, less))

pub some_dw : (op : Op) → op_fault op ≡ None → 0 < dw_of op → 1 ≤ dw_to 128 (address_of op)
some_dw (ops.Read a dw f l) sound more =
    let al : a % 4 ≡ 0 = grind (arith, nat_tests) in
    omega (arith, al)
some_dw (ops.Write a f l bytes) sound more =
    let al : a % 4 ≡ 0 = grind (arith, nat_tests) in
    omega (arith, al)
some_dw (ops.FetchAdd a w x) sound more = absurd (omega (arith, more))
some_dw (ops.Swap a w x) sound more = absurd (omega (arith, more))
some_dw (ops.Cas a w x y) sound more = absurd (omega (arith, more))

one_by : (n : ℕ) (op : Op) → nat_le (dw_of op) (dw_to 128 (address_of op)) ≡ true → cut 128 n op ≡ op ∷ []
unfolding cut
one_by zero op fits = refl
one_by (suc n) op fits = rw (fits) refl

two_by : (n m : ℕ) (op : Op) → 2 ≤ n → m ≡ dw_to 128 (address_of op) → nat_le (dw_of op) m ≡ false → nat_le (dw_of (back m op)) (dw_to 128 (address_of (back m op))) ≡ true → cut 128 n op ≡ front m op ∷ back m op ∷ []
unfolding cut
two_by zero m op two is less fits = absurd (omega (arith, two))
two_by (suc zero) m op two is less fits = absurd (omega (arith, two))
two_by (suc (suc n)) m op two is less fits = rw (← is, less) (ap (λ (xs : List Op). front m op ∷ xs) (one_by (suc n) (back m op) fits))

pub one_block : (base : ℕ) (m : List ℕ) (op : Op) → dw_of op ≤ dw_to 128 (address_of op) → after_all base m (blocks_of op) ≡ after base 128 m op
one_block base m op le =
    let fits : nat_le (dw_of op) (dw_to 128 (address_of op)) ≡ true = grind (arith, nat_tests) in
    ap (after_all base m) (one_by (dw_of op) op fits)

halves : (op : Op) → op_fault op ≡ None → dw_of op ≤ 32 → dw_to 128 (address_of op) < dw_of op → blocks_of op ≡ front (dw_to 128 (address_of op)) op ∷ back (dw_to 128 (address_of op)) op ∷ []
halves op sound few less =
    let over : nat_le (dw_of op) (dw_to 128 (address_of op)) ≡ false = grind (arith, nat_tests) in
    let some : 1 ≤ dw_to 128 (address_of op) = some_dw op sound (omega (arith, less)) in
    two_by (dw_of op) (dw_to 128 (address_of op)) op (omega (arith, some, less)) refl over (back_fits op sound few less)

pub two_blocks : (base n : ℕ) (m : List ℕ) (op : Op) → op_fault op ≡ None → dw_of op ≤ 32 → n ≡ dw_to 128 (address_of op) → n < dw_of op → after_all base m (blocks_of op) ≡ after base 128 (after base 128 m (front n op)) (back n op)
two_blocks base n m op sound few is less = rw (is) (ap (after_all base m) (halves op sound few (subst (λ (x : ℕ). x < dw_of op) is less)))

-- neither has a fault
no_fault : (o : Option TlpFault) → is_none o ≡ true → o ≡ None
no_fault None e = refl
no_fault (Some fault) e = absurd cc

both_true : (x y : Bool) → (x && (y && true)) ≡ true → (x ≡ true) × (y ≡ true)
both_true true true h = (refl, refl)
both_true true false h = absurd cc
both_true false y h = absurd cc

both : (a b : Op) → list_all is_faultless (a ∷ b ∷ []) ≡ true → (op_fault a ≡ None) × (op_fault b ≡ None)
both a b e =
    let h = both_true (is_none (op_fault a)) (is_none (op_fault b)) e in
    (no_fault (op_fault a) h.0, no_fault (op_fault b) h.1)

sound_halves : (n : ℕ) (op : Op) → list_all is_faultless (blocks_of op) ≡ true → op_fault op ≡ None → dw_of op ≤ 32 → n ≡ dw_to 128 (address_of op) → n < dw_of op → (op_fault (front n op) ≡ None) × (op_fault (back n op) ≡ None)
sound_halves n op all sound few is less =
    rw (is) (both (front (dw_to 128 (address_of op)) op) (back (dw_to 128 (address_of op)) op)
    (subst (λ (xs : List Op). list_all is_faultless xs ≡ true) (halves op sound few (subst (λ (x : ℕ). x < dw_of op) is less)) all))

pub front_sound : (n : ℕ) (op : Op) → list_all is_faultless (blocks_of op) ≡ true → op_fault op ≡ None → dw_of op ≤ 32 → n ≡ dw_to 128 (address_of op) → n < dw_of op → op_fault (front n op) ≡ None
front_sound n op all sound few is less = (sound_halves n op all sound few is less).0

pub back_sound : (n : ℕ) (op : Op) → list_all is_faultless (blocks_of op) ≡ true → op_fault op ≡ None → dw_of op ≤ 32 → n ≡ dw_to 128 (address_of op) → n < dw_of op → op_fault (back n op) ≡ None
back_sound n op all sound few is less = (sound_halves n op all sound few is less).1
